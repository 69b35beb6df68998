pub mod Sums
pub mod Sets
pub mod Pairs
pub mod Coming
