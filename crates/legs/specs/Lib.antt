-- What a reader must believe:
pub mod Legs
pub mod Answers
-- and what engineers prove of it:
pub mod Laws
