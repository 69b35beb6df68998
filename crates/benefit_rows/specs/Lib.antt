pub mod Benefits
pub mod BenefitLaws
pub mod Narrow
