pub mod AxisMaps
pub mod Coordinates
pub mod Extremes
pub mod FlatGlyphs
pub mod Glyphs
pub mod Headers
pub mod Normal
pub mod Notdef
pub mod Outlines
pub mod Places
pub mod ReadGlyphs
pub mod Tags
-- lemmas that the proofs of other crates need
pub mod ExtremesLaws
pub mod HeaderLaws
pub mod PlaceLaws
pub mod OutlineLaws
