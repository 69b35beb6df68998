-- the desks of the workers
pub mod Desks
-- what a search needs beside the disk, and what it gives
pub mod Starts
pub mod Searches
-- solutions that are offered before a search goes on
pub mod Offers
-- the disk of a search that keeps a journal
pub mod Journals
