-- Host memory: a lent run of bytes, words low byte first.
pub mod Memory
pub mod OneWord
