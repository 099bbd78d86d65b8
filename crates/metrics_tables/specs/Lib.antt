pub mod Comparisons
pub mod Nesting
pub mod Changes
pub mod Measuring
pub mod Tables
pub mod Hvar
pub mod Post
pub mod Os2
-- what serves the code alone
pub mod RegionIndexes
pub mod Walks
-- lemmas that the proofs of other crates need
pub mod StaticLaws
