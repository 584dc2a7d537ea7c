pub mod Disk
pub mod File
pub mod Images
pub mod Memory
pub mod Stopping
