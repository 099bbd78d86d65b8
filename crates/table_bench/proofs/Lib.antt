pub mod Shapes
pub mod Fonts
