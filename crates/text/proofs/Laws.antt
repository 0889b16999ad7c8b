-- What is proved of the definitions, each law once.
pub mod Listing
pub mod Text
