-- What an `impl` cites and no clause.
pub mod Numbers
pub mod Listing
