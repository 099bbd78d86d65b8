pub mod CastLemmas
