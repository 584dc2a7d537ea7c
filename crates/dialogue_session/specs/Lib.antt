pub mod Filling
pub mod Private
pub mod Variables
