pub mod Places
pub mod Supports
pub mod Cuts
pub mod Scalar
pub mod Deltas
pub mod Parts
pub mod Laws
