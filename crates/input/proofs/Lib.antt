-- What a loop of reads leaves.
pub mod Filled
