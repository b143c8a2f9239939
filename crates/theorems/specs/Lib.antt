pub mod Demand3
pub mod Corollaries
pub mod AsBefore
pub mod Reached
pub mod Restarts
pub mod Growth
