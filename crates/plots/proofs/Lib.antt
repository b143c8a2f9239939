pub mod Every
pub mod Kept
pub mod Rooms
