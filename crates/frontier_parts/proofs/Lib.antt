pub mod Joined
pub mod Settling
pub mod Runs
pub mod Searching
pub mod Splits
pub mod Going
pub mod Covered
pub mod Turns
