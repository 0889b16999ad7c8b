-- What is proved of the definitions, each law once.
pub mod Checking
pub mod Days
pub mod Lent
pub mod Rows
