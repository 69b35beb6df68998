pub mod Candidates
pub mod Pieces
pub mod Ready
