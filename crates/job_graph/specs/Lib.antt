-- The definitions of a growing graph of jobs and of its board. fontc's own.
-- What a reader must believe:
pub mod Meaning
pub mod Rounds
pub mod Laws
pub mod Histories
pub mod Promises
pub mod BoardView
pub mod Answers
pub mod Solutions
-- What serves the body of the board, and no contract of a public call:
pub mod BoardBody
pub mod Agenda
pub mod Places
pub mod Numbered
-- What serves the proofs that plans keep the laws. These are lemmas, and nothing in them need be
-- believed:
pub mod Members
pub mod Growth
pub mod Confluence
pub mod Limit
pub mod Solved
