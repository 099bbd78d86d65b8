-- The definitions of what a job reads and of what came of it. fontc's own.
pub mod Plain
pub mod Read
pub mod Places
