pub mod NameIds
pub mod Fvar
pub mod Avar
pub mod Texts
pub mod Names
pub mod Stores
-- lemmas that the proofs of other crates need
pub mod HeaderLaws
