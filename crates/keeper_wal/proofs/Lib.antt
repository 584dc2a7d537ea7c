pub mod Committing
pub mod Opened
pub mod Records
pub mod Settling
pub mod lemmas
