pub mod Chains
pub mod Digits
pub mod Lengths
pub mod Printing
pub mod Ranges
pub mod Repeats
pub mod Scanning
mod Windows
pub mod Values
pub mod Zeros
