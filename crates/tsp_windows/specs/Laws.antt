-- What an `impl` cites and no clause.
pub mod States
pub mod Moves
pub mod Walks
pub mod Program
pub mod Tours
pub mod Limits
