-- What the functions that print promise and need.
pub mod Fractions
pub mod Signs
