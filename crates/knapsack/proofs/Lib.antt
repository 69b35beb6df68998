pub mod DrawnItems
pub mod Fills
pub mod Placing
pub mod RoundTrip
pub mod RunLemmas
pub mod TextLengths
