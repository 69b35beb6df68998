-- when what a job answers is right
pub mod Widths
pub mod Reports
pub mod Parts
pub mod Checks
pub mod Covers
pub mod Over
pub mod Outcomes
pub mod PartSearches
pub mod Joins
pub mod Answers
pub mod Offers
-- what a run leaves on its disk where it keeps a journal, and what it then answers
pub mod Journals
pub mod Opened
pub mod Kept
-- what is answered for a journal that is only read
pub mod Splits
pub mod ReportsJoined
-- how a run ends
pub mod Ended
pub mod OffersRead
