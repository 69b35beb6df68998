-- What an `impl` cites and no clause.
pub mod Places
pub mod Tested
pub mod Shaped
pub mod Coded
pub mod Steps
pub mod Gaps
pub mod Program
pub mod Solutions
pub mod Agreeing
