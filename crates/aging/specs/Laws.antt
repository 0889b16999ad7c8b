-- What is proved of the definitions, each law once.
pub mod Pack
pub mod Days
