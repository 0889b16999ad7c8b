-- What a reader must believe:
pub mod Agings
pub mod Answers
pub mod Claim
pub mod Tenfold
-- the worked trails, computed on those definitions:
pub mod Worked
