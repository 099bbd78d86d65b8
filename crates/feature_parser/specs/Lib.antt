pub mod Reading
pub mod OnLiterals
