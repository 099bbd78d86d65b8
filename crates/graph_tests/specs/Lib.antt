-- Definitions of the plans that the tests run, and of what the tests' workers hold. fontc's own.
pub mod Tables
pub mod TableLaws
pub mod Held
pub mod Chains
