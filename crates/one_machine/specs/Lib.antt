pub mod Instance
pub mod OwnWords
pub mod Program
pub mod Shown
pub mod Texts
pub mod Generating
pub mod Theory
-- what an `impl` cites and no clause
pub mod Laws
