pub mod Lines
pub mod TwoLines
pub mod Stepping
pub mod Reaching
pub mod Consuming
pub mod Standing
pub mod Cuts
pub mod Runs
