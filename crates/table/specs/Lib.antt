-- What a reader must believe:
pub mod Table
pub mod Answers
