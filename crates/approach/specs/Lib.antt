-- What a reader must believe:
pub mod Approach
pub mod Tenfold
pub mod Answers
-- and what engineers prove of it:
pub mod Laws
