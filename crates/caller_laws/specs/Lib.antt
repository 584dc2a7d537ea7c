pub mod Callers
pub mod Seen
pub mod Doing
pub mod Numbers
pub mod Rest
