pub mod Room
pub mod Copies
pub mod LastLines
pub mod Views
pub mod Directory
pub mod FromLimits
