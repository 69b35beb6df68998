-- the board as data, its steps and runs
pub mod Board
pub mod Taking
pub mod Steps
pub mod Improving
pub mod Fates
pub mod Entering
pub mod Pushes
pub mod Finishing
pub mod Bound
pub mod Runs
-- what boards keep
pub mod Starts
pub mod GoodBoard
pub mod Restoring
-- the laws
pub mod Laws
