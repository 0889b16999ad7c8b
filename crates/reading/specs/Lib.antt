-- What a reader must believe:
pub mod Answers
pub mod Reading
pub mod Steps
-- rows of numbers, computed on those definitions:
pub mod Examples
