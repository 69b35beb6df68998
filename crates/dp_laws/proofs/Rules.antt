-- Proofs on the rules.
pub mod Examples
pub mod Linked
pub mod Redirecting
pub mod Layers
pub mod Expanded
pub mod Pruned
pub mod Merged
pub mod AnyOrder
pub mod Built
pub mod Compiled
pub mod Unreduced
pub mod Relaxed
pub mod Diagrams
pub mod Within
pub mod Fitting
pub mod Ranked
pub mod Stems
