pub mod Behind
pub mod Resting
