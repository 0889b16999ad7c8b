-- What is proved of the definitions, each law once.
pub mod Mirror
pub mod Moment
pub mod Moved
pub mod Placing
pub mod Tenfold
pub mod Walk
pub mod Ranges
