pub mod Rooms
pub mod Fetched
pub mod Taken
