pub mod Asked
pub mod Boards
pub mod Compiled
pub mod Inspected
pub mod Lines
pub mod Runs
pub mod Sampled
pub mod Statuses
