pub mod Draws
pub mod Glyphs
pub mod SampleText
