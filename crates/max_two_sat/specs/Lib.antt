pub mod Instance
pub mod Limits
pub mod OwnWords
pub mod Program
pub mod Numbers
pub mod Shown
pub mod Clauses
pub mod Lines
pub mod Texts
pub mod Room
pub mod Generating
pub mod Drafted
pub mod Printed
-- what an `impl` cites and no clause
pub mod Laws
-- the problem of the program
pub mod Theory
