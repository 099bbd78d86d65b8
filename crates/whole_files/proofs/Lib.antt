pub mod Fronts
pub mod Asked
pub mod Prints
