pub mod Passes
pub mod Crossings
pub mod Rereading
pub mod TextLengths
pub mod DrawnWeights
