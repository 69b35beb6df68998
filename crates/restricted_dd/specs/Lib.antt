pub mod Beams
