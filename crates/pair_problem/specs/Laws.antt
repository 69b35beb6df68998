-- What proofs cite and no clause.
pub mod Adding
pub mod Kept
pub mod Products
