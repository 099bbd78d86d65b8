mod Turns
pub mod Lengths
mod Examples
