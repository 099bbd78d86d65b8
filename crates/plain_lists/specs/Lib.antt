-- lemmas that the proofs of other crates need
pub mod TurnLaws
