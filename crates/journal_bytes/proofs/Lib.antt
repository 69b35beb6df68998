pub mod Again
pub mod Bases
mod Counts
pub mod Ended
mod Entries
pub mod Found
pub mod Journals
mod Loop
pub mod Reading
pub mod Sizes
pub mod Spelled
