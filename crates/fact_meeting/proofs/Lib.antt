pub mod Meet
pub mod Ways
