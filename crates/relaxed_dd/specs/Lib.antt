pub mod Building
pub mod Cut
pub mod Lean
pub mod Numbers
pub mod Shown
