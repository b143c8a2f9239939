pub mod Ways
pub mod Shows
pub mod Fronts
pub mod Replies
pub mod Refusals
