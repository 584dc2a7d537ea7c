pub mod Packets
pub mod Wired
pub mod Wiring
pub mod Memory
pub mod Runs
