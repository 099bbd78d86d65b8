pub mod Totals
pub mod Lines
pub mod Keeps
pub mod Allowed
pub mod Calls
pub mod Dealt
pub mod Ends
