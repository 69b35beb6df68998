-- What an `impl` cites and no clause.
pub mod Limits
pub mod Numbers
pub mod Totals
pub mod Listing
pub mod Solutions
