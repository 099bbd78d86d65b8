pub mod AnchorLaws
pub mod ShapeLaws
pub mod BaseLemmas
pub mod FlatLaws
pub mod SourceLaws
pub mod LimitLaws
pub mod SharedBases
mod WorkedRows
