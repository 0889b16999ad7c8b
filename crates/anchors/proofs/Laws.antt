-- What is proved of the definitions, each law once.
pub mod Claim
pub mod Count
pub mod Floats
pub mod Sixteenths
pub mod Sum
pub mod Yielded
pub mod Gives
pub mod Reading
