-- lists of prefixes and of children, gaps, and floors
pub mod Pairs
pub mod Antichains
pub mod GapChains
pub mod Dominance
pub mod Children
pub mod Floors
pub mod Width
-- restricted layers as plain lists of prefixes
pub mod Restricted
-- diagrams as seen, and their children
pub mod Diagrams
-- the rules by which the layers of a diagram are built
pub mod Rules
