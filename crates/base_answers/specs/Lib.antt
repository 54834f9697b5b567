-- Answers in document 01's numbers.
pub mod Told
