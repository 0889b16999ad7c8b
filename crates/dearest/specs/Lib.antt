-- What a reader must believe:
pub mod Dearest
pub mod Claim
-- rows of numbers, computed on those definitions:
pub mod Examples
