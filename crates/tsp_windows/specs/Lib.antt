pub mod Instance
pub mod Late
pub mod States
pub mod Program
pub mod OwnWords
pub mod Shown
pub mod Texts
pub mod Generating
pub mod FromHome
-- what an `impl` cites and no clause
pub mod Laws
-- the problem of the program
pub mod Theory
