-- The layers of restricted diagrams as plain lists of prefixes.
pub mod Extensions
pub mod ReductionOrder
pub mod Leaders
pub mod Beam
pub mod Beams
pub mod Ordered
pub mod BestOfState
pub mod BeamGives
pub mod Covering
pub mod Members
pub mod Sorting
