pub mod ModelNames
pub mod Parts
