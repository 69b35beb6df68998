pub mod Joining
pub mod Reports
pub mod Best
