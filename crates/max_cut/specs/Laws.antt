-- What an `impl` cites and no clause.
pub mod Graph
pub mod Listing
pub mod Cuts
