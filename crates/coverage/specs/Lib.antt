pub mod Locks
pub mod Faults
pub mod Lacks
pub mod Walked
pub mod Tallies
