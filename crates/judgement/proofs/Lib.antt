pub mod Table
pub mod Words
pub mod All
pub mod Order
pub mod Entries
