pub mod Instance
pub mod Limits
pub mod Order
pub mod OwnWords
pub mod Program
pub mod Placed
pub mod Runs
pub mod Shown
pub mod Generating
pub mod Reading
pub mod Printing
-- what an `impl` cites and no clause
pub mod Laws
-- the problem of the program
pub mod Theory
