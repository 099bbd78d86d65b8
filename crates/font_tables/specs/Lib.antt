pub mod Tags
pub mod Ordered
pub mod Variations
pub mod Tables
