pub mod Fills
pub mod Fonts
pub mod LawProofs
pub mod Means
pub mod PointRows
pub mod Rows
pub mod StayingPoints
pub mod Turns
