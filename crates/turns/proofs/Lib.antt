pub mod Busy
pub mod Ties
pub mod Fits
