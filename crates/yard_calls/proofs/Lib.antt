pub mod Calling
pub mod Making
