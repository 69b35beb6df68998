pub mod Lasts
pub mod Built
pub mod Numbers
pub mod Halves
pub mod Made
pub mod LeanBuilt
pub mod RowRuns
pub mod LeanRows
