pub mod Shown
pub mod Sessions
pub mod Choices
