-- What is proved of the definitions, each law once.
pub mod All
pub mod Axes
pub mod Box
pub mod Chord
pub mod Clock
pub mod Convex
pub mod Deviation
pub mod Mirror
pub mod Near
pub mod Place
pub mod Ranges
pub mod Rounding
pub mod Silence
pub mod Tenfold
pub mod Order
