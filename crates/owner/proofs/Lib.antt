pub mod Joining
pub mod Places
pub mod Committing
pub mod Stepping
