pub mod DataTypes
pub mod Tables
-- lemmas that the proofs of other crates need
pub mod LimitLaws
