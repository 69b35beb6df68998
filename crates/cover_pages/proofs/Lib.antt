pub mod Lists
pub mod Made
pub mod Sized
pub mod Rows
pub mod Shown
pub mod Read
pub mod Sent
