-- What is proved of the definitions, each law once.
pub mod Accepted
pub mod Columns
pub mod Reading
