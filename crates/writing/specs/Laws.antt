-- What is proved of the definitions, each law once.
pub mod Writing
pub mod Lists
pub mod Passing
pub mod Centimetres
pub mod Millimetres
pub mod Silences
