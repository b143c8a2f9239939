pub mod Landing
pub mod Logged
pub mod Moves
pub mod Stepping
