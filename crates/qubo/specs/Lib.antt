pub mod Quadratic
pub mod OwnWords
pub mod Program
pub mod Reading
pub mod Printing
pub mod Generating
pub mod Lines
pub mod Shown
-- what an `impl` cites and no clause
pub mod Laws
-- the problem of the program
pub mod Theory
