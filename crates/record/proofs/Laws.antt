-- What is proved of the definitions, each law once.
pub mod Accepted
pub mod Changed
pub mod Head
pub mod Kinds
pub mod Moved
pub mod Rest
pub mod Silence
pub mod Tenfold
pub mod Trail
pub mod First
pub mod Scan
pub mod Answers
