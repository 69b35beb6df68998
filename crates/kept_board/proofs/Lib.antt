mod Spelled
mod Stepped
pub mod Growing
mod Keeping
mod Moving
mod Recorded
mod Histories
pub mod Sent
