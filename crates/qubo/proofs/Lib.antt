pub mod RoundTrip
pub mod TextLengths
pub mod DrawnLines
pub mod Passes
