pub mod Logs
pub mod Scan
