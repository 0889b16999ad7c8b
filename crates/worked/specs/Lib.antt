-- That the program's agings are those of the worked rows.
pub mod Agings
