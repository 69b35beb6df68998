-- lists
pub mod Tickets
mod Added
mod Places
mod Adding
mod Begins
mod Listing
-- what accepted records are restored to
pub mod Based
mod Basing
pub mod Restored
pub mod Beside
-- the record of a finished subproblem
mod Entered
mod Kids
mod Finishing
-- the steps
mod Sounding
pub mod Steps
pub mod Snapshots
pub mod Parted
pub mod Joined
