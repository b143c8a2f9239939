pub mod Sums
pub mod Starting
pub mod Hunting
pub mod Rounding
