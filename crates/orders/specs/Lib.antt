pub mod Orders
pub mod Next
pub mod Hunt
pub mod Claims
