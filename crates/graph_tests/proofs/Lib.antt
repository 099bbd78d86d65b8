pub mod HeldLemmas
pub mod TableReads
pub mod ChainLinks
