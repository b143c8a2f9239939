pub mod LinkedKinds
pub mod WidestTag
pub mod Rounds
pub mod TightList
pub mod Tight
