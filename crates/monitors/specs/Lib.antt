pub mod Shown
pub mod Monitors
