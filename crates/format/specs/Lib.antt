-- What a reader must believe:
pub mod Bytes
pub mod Kinds
pub mod Format
pub mod Fixes
-- rows of numbers, computed on those definitions:
pub mod Examples
-- and relations by which inner functions are specified:
pub mod Laws
