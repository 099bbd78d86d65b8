mod ListLemmas
mod RowLemmas
mod Examples
pub mod OffsetLemmas
