mod Branches
mod Calls
mod Finishing
mod FinishLater
pub mod Histories
mod Idle
mod LaterBoards
mod LaterKept
mod Moves
mod Offers
mod Refusing
pub mod Sent
mod Sizing
mod Slots
mod Stopping
mod TakenOut
mod Taking
pub mod Collected
