-- Definitions of the plans that are measured. fontc's own.
pub mod Jobs
pub mod Plans
pub mod Lawful
