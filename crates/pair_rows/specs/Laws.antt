-- What an `impl` cites and no clause.
pub mod Pairs
pub mod Limits
pub mod Rows
pub mod States
pub mod Totals
pub mod Sizes
pub mod Split
pub mod Gaps
pub mod AnyOrder
pub mod Solutions
