-- What an `impl` cites and no clause.
pub mod MoveLaw
