pub mod Repeats
pub mod Patterns
