-- Texts, zero beyond their length, against the history of a half's calls.
pub mod Zeros
