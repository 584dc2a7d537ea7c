pub mod Recovery
pub mod Faults
pub mod Replica
pub mod Held
pub mod Server
