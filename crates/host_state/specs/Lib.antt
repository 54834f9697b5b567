-- The host half: its record, its handshake, its setup, and the steps of its two sides.
pub mod State
pub mod Side
pub mod Shake
pub mod Setup
pub mod Send
pub mod Take
pub mod Calls
