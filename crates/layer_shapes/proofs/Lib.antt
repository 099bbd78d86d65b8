pub mod AnchorTurns
pub mod LastFirst
pub mod LayerRuleLaws
pub mod LayerTableLaws
pub mod Turns
mod WorkedRows
mod WrittenLayers
