pub mod Trees
pub mod TreeOf
pub mod TreeFalls
pub mod Layouts
pub mod Leads
pub mod Equal
pub mod Views
pub mod Standing
