pub mod Stores
pub mod Written
pub mod Builders
-- what serves the code alone
pub mod Views
