-- What is proved of the definitions, each law once.
pub mod Axis
pub mod Legs
pub mod Ranges
pub mod Times
