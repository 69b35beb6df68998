pub mod RowParts
pub mod RowStates
pub mod Joining
pub mod Covering
pub mod OrderLaws
pub mod Written
pub mod Tests
