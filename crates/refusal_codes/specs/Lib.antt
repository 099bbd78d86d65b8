pub mod First
pub mod Gives
pub mod Order
pub mod Rules
pub mod Texts
-- lemmas that the proofs of other crates need
pub mod FirstLaws
pub mod JudgedLaws
pub mod NotingLaws
