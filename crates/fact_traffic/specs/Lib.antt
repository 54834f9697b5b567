-- Traffic in any order.
pub mod Places
pub mod Rings
pub mod World
pub mod Play
pub mod Watch
pub mod Got
pub mod Invariant
pub mod Traffic
pub mod Instance
pub mod Errors
pub mod ShutOut
