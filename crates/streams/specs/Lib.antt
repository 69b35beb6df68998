pub mod Adapters
pub mod Counts
pub mod MemorySink
pub mod MemorySource
pub mod ReadErrors
pub mod Told
pub mod WriteErrors
