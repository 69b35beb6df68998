pub mod Walks
pub mod Covering
pub mod Chains
pub mod Rows
pub mod Puts
