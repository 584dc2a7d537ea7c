pub mod Calls
pub mod Runs
pub mod Once
pub mod Rows
pub mod Targets
pub mod Reading
pub mod Executed
pub mod Carrying
