pub mod Keeping
pub mod Whole
pub mod Lengths
