pub mod BehindMarks
pub mod StoredLocks
pub mod AsCallsEnd
