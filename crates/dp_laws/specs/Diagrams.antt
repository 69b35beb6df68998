-- Relaxed diagrams as their readers show them, and the children that they leave.
pub mod Nodes
pub mod Seen
pub mod Cutsets
pub mod Placed
pub mod Outer
