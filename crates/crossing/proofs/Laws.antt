-- What is proved of the definitions, each law once.
pub mod Checking
pub mod Crossing
pub mod Moved
pub mod Tenfold
pub mod Search
pub mod Gives
