pub mod RangePlaces
pub mod Sameness
