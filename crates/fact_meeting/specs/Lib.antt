-- Host and port in the handshake, over one memory.
pub mod Meeting
