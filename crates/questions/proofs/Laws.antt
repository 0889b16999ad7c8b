-- What is proved of the definitions, each law once.
pub mod Agings
pub mod Asked
pub mod Calls
pub mod Claim
pub mod Kept
pub mod Moved
pub mod Tenfold
pub mod Gives
pub mod Worked
pub mod Units
