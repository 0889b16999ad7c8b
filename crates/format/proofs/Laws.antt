-- What is proved of the definitions, each law once.
pub mod Changed
pub mod Each
pub mod Kinds
pub mod Layout
pub mod Numbers
pub mod RoundTrip
pub mod Stores
