pub mod Lengths
pub mod Turns
pub mod StoreLemmas
mod StatRows
mod MvarRows
