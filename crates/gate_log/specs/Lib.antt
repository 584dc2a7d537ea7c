pub mod Causes
pub mod Gates
pub mod Grammars
pub mod Logs
