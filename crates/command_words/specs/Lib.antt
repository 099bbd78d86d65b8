pub mod Commands
pub mod Grammar
pub mod Matched
pub mod Shown
