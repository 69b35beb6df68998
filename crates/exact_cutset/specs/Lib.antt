pub mod Seen
pub mod Stored
pub mod Ready
pub mod Prepared
pub mod Rows
pub mod Walking
