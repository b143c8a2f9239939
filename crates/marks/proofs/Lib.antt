pub mod Marking
pub mod Listed
