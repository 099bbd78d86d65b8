pub mod EqualLemmas
pub mod Examples
pub mod FarLaws
pub mod LeadsLaws
pub mod PieceLemmas
pub mod ResultLemmas
pub mod StandingLemmas
pub mod TreeLemmas
