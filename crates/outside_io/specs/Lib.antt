pub mod Counts
pub mod Files
pub mod Calls
pub mod Console
pub mod Memory
pub mod Slots
pub mod Sure
pub mod Real
