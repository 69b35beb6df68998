pub mod Pairs
pub mod Instance
pub mod Limits
pub mod Hashes
pub mod Program
pub mod OwnWords
pub mod Shown
pub mod Fitting
pub mod Table
pub mod Shifts
-- what an `impl` cites and no clause
pub mod Laws
