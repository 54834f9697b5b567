-- The twelve marked examples of document 01.
pub mod Marked
