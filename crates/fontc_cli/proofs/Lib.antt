pub mod AskedLaws
pub mod BoardLaws
pub mod Ends
pub mod Inspections
pub mod Rows
pub mod Samples
