mod Rows
pub mod MarkLaws
pub mod Means
pub mod Runs
pub mod Steps
pub mod Stills
pub mod Walks
