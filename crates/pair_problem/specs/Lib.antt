pub mod Adding
pub mod Room
-- what proofs cite and no clause
pub mod Laws
