pub mod FormLaws
pub mod PlaceLaws
pub mod ReadLaws
pub mod TableLaws
mod WorkedRows
