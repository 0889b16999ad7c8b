-- What a reader must believe:
pub mod Aging
pub mod Tenfold
pub mod Moved
pub mod Answers
-- and what engineers prove of it:
pub mod Laws
