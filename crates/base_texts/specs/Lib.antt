-- Texts of 0 to 60 bytes, a word at a time.
pub mod Texts
