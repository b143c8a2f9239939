pub mod Bools
pub mod Starts
pub mod Seen
