-- What a reader must believe:
pub mod Thinning
-- what the code promises on the way to it:
pub mod Marks
pub mod Spans
