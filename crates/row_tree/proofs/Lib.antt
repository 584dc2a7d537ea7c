pub mod Held
pub mod Pages
pub mod Waiting
pub mod Distinct
