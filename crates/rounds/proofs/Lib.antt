pub mod Begins
pub mod Course
pub mod Opening
pub mod Playing
