-- What is proved of the definitions, each law once.
pub mod Times
pub mod Legs
pub mod Ranges
