-- What is proved of the definitions, each law once.
pub mod Tests
pub mod Ranges
pub mod Checking
pub mod Search
