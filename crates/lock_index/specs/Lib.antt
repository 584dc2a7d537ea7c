pub mod Keys
pub mod Sameness
pub mod Members
pub mod Slots
pub mod Searches
pub mod Granted
pub mod Conversions
pub mod Replica
