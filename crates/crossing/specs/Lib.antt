-- What a reader must believe:
pub mod Crossing
pub mod Answers
-- and what engineers prove of it:
pub mod Laws
