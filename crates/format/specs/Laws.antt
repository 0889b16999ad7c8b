-- The relations by which inner functions are specified.
pub mod Changed
