-- What is proved of the definitions, each law once.
pub mod Moved
pub mod Checking
pub mod Leg
pub mod Parts
pub mod Ranges
pub mod Search
pub mod Tests
pub mod Trail
pub mod Tenfold
pub mod Gives
