pub mod CompositeData
pub mod GlyphData
pub mod Outlines
pub mod Tables
