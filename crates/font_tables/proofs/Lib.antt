pub mod ZeroFirst
pub mod Constants
pub mod StillRows
pub mod MadeNotdef
pub mod NoAxes
