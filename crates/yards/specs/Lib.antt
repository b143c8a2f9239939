pub mod Yards
pub mod Swaps
