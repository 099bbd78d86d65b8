pub mod Members
pub mod OrderLemmas
pub mod Rising
pub mod Rows
