pub mod Table
pub mod Places
pub mod Shape
pub mod Document
pub mod Layers
pub mod Outlines
pub mod Printing
pub mod Tests
pub mod Reading
pub mod Numbers
pub mod Program
pub mod OwnWords
pub mod Shown
pub mod Theory
-- what an `impl` cites and no clause
pub mod Laws
