pub mod Paths
pub mod SlotLemmas
pub mod MemoryLaws
pub mod SureLaws
pub mod RealLaws
