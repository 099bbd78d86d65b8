pub mod AxisValues
pub mod AxisReading
pub mod InstanceReading
pub mod AxisTables
pub mod ReadAxes
pub mod OnLiterals
-- lemmas that the proofs of other crates need
pub mod AxisValueLaws
pub mod AxisTelling
