pub mod Pending
pub mod Orders
