pub mod Region
pub mod Layout
pub mod Popping
pub mod Lending
pub mod Parts
