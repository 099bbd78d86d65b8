pub mod AxisValues
pub mod Stat
pub mod Metrics
pub mod Mvar
