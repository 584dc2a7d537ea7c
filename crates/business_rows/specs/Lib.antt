pub mod Keys
pub mod Sameness
pub mod Kept
pub mod Touched
