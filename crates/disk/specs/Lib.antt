pub mod Content
pub mod Disk
pub mod FirstSyncs
pub mod Memory
pub mod Outside
pub mod Synced
pub use Rattle.streams.specs.Counts
