pub mod AxisPairs
pub mod Placing
pub mod Points
pub mod Repeats
pub mod Scales
pub mod UnmappedAxes
-- lemmas that the proofs of other crates need
pub mod PlacingLaws
pub mod RepeatLaws
