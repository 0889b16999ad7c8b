-- What a reader must believe:
pub mod Text
-- rows of numbers, computed on those definitions:
pub mod Examples
-- and what engineers prove of it:
pub mod Laws
pub mod Listing
