pub mod StoredLocks
pub mod HandedLocks
pub mod ChangedLocks
