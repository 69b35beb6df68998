pub mod Pages
pub mod Books
pub mod Readers
pub mod Sizes
pub mod Stored
