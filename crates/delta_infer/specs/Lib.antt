pub mod Inferred
pub mod Laws
pub mod Moved
pub mod Omitted
pub mod Parts
