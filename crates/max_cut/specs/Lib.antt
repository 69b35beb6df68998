pub mod Graph
pub mod Program
pub mod Cuts
pub mod Edges
pub mod EdgeLines
pub mod Shown
pub mod Generating
-- what an `impl` cites and no clause
pub mod Laws
-- the problem of the program
pub mod Theory
