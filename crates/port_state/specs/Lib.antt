-- The port half: its record, its handshake, and the steps of its two sides.
pub mod State
pub mod Shake
pub mod Tail
pub mod Side
pub mod Fetch
pub mod Post
pub mod Calls
