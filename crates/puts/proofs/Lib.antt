pub mod Halving
pub mod Gathering
pub mod Repeating
