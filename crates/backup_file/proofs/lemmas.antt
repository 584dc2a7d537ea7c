pub mod Adding
pub mod Counts
pub mod Generations
pub mod Meaning
pub mod Records
pub mod Slotted
pub mod Units
