pub mod Runs
pub mod Subtables
pub mod Cmap
pub mod Reading
