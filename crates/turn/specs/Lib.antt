pub mod History
pub mod Lends
pub mod Order
pub mod Rule
pub mod Seats
