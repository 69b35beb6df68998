-- The rules by which the layers of a diagram are built, on plain lists of nodes.
pub mod Redirects
pub mod Expanding
pub mod Pruning
pub mod Reducing
pub mod Compiling
pub mod Within
pub mod Ranked
pub mod Stems
