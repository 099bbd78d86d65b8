pub mod FixedPoint
-- lemmas that the proofs of other crates need
pub mod FloorLaws
pub mod ProductLaws
