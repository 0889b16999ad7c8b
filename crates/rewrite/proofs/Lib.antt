-- What engineers prove of the definitions.
pub mod Laws
