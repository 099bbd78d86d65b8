pub mod Joins
pub mod Bounds
pub mod Leads
pub mod Fields
mod Rows
