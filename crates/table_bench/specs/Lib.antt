pub mod Fonts
pub mod Outlines
