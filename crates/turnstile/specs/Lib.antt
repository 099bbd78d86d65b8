-- The rule of a turnstile, and what its calls promise. fontc's own.
pub mod Entries
pub mod Members
pub mod Tickets
pub mod Rule
pub mod Steps
pub mod Passes
-- lemmas that the proofs of other crates need
pub mod Sending
