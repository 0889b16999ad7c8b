-- What is proved of the definitions, each law once.
pub mod Answers
pub mod Writing
pub mod ReadsBack
pub mod Lent
pub mod Lists
pub mod Passing
pub mod Centimetres
