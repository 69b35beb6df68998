-- Proofs on restricted layers.
pub mod Covering
pub mod Differing
pub mod Examples
pub mod Found
pub mod InOrder
pub mod Joining
pub mod Keeping
pub mod Orders
pub mod Permutations
pub mod Sorting
