pub mod Replicas
pub mod Held
pub mod Known
pub mod Listed
