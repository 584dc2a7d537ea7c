pub mod Crash
pub mod Parts
pub mod lemmas
