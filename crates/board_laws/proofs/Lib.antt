-- lists
pub mod Lists
pub mod With
pub mod Slots
pub mod Counting
pub mod Frontier
-- fates
pub mod Fates
pub mod Pushing
mod Differing
-- what each step keeps
mod Finishing
pub mod FinishingBoard
pub mod Improving
mod Pushed
pub mod GivingBack
pub mod Taking
pub mod Carrying
pub mod Halting
pub mod Fresh
pub mod First
pub mod Restoring
-- what runs keep, and what good boards say
pub mod Running
pub mod Reading
pub mod Starting
mod Examples
