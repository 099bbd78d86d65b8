pub mod CharacterCodes
pub mod Laws
-- lemmas that the proofs of other crates need
pub mod OrderLaws
