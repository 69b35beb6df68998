-- what records make of a search, and which may follow
pub mod Replay
pub mod Accepting
-- what replay keeps in memory
pub mod Places
-- what makes a journal sound
pub mod Sound
-- the board beside its records
pub mod Following
-- parts of a snapshot
pub mod Parts
-- the laws
pub mod Laws
