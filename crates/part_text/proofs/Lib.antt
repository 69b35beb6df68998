pub mod Chains
pub mod PrintedTokens
pub mod ReportsRead
