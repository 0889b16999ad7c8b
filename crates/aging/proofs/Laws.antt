-- What is proved of the definitions, each law once.
pub mod Aging
pub mod Moved
pub mod Step
pub mod Tenfold
pub mod Days
pub mod Pack
