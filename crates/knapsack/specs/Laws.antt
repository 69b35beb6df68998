-- What an `impl` cites and no clause.
pub mod Limits
pub mod States
pub mod Packings
pub mod Greedy
pub mod Sizes
pub mod Program
pub mod Model
