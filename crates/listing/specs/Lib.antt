pub mod Listing
pub mod Consuming
pub mod Streams
