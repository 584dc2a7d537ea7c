pub mod FirstKeeps
pub mod FirstState
