-- What an `impl` cites and no clause.
pub mod Limits
pub mod Runs
pub mod Program
pub mod Orders
