pub mod HeldRows
pub mod Blocks
pub mod Tops
pub mod Joined
pub mod Extended
pub mod WayTables
pub mod Sorted
mod Powers
pub mod Pruned
pub mod Descended
pub mod Layered
pub mod Built
pub mod Walked
pub mod Started
pub mod Selected
