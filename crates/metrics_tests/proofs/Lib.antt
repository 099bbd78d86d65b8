pub mod Orders
pub mod Simple
