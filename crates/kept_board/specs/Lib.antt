-- what a board kept in a journal shows, and what its records are to it
pub mod View
pub mod Due
pub mod Records
-- what is on its disk
pub mod Kept
pub mod Adding
pub mod Failing
-- its moves under a turn, and what they leave
pub mod Moves
pub mod Histories
pub mod Laws
