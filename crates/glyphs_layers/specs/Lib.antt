pub mod SourceLayers
pub mod GlyphRules
pub mod GlyphPlaces
pub mod Forms
pub mod Bases
pub mod GlyphReading
pub mod GlyphTables
pub mod SourceGlyphs
-- lemmas that the proofs of other crates need
pub mod MastersAlone
pub mod OnLiterals
