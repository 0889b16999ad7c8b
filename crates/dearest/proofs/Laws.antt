-- What is proved of the definitions, each law once.
pub mod Claim
pub mod Counts
pub mod Fixes
pub mod Writing
pub mod Costs
