pub mod Settled
pub mod Searches
pub mod Splitting
pub mod Dealing
pub mod Beside
pub mod CoversBelow
