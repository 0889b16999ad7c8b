-- What a reader must believe:
pub mod Moment
pub mod Mirror
pub mod Tenfold
pub mod Answers
-- and what engineers prove of it:
pub mod Laws
