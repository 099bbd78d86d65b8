pub mod Billionths
pub mod Turns
pub mod RepeatedTags
pub mod AxisWords
pub mod SoundAxes
mod Examples
