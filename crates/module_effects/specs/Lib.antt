pub mod Effects
pub mod Integers
pub mod Rows
pub mod Spots
