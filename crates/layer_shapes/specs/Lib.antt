pub mod LayerReading
pub mod LayerRules
pub mod LayerTables
pub mod OnLiterals
pub mod Placing
pub mod ReadLayers
-- what the proofs of readers above need
pub mod DecimalLaws
pub mod LayerLaws
