pub mod Replies
pub mod Long
