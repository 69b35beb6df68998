pub mod View
pub mod Contents
pub mod Frontier
pub mod Opened
pub mod Kept
pub mod Starting
pub mod Laws
pub mod Moves
