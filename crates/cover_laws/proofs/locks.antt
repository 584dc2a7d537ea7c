-- Lock tables: locks that were granted stay, and cover the rows that they were asked for.
pub mod OftenAsked
pub mod LockCounts
pub mod ConvertedLocks
pub mod HeldLocks
pub mod CoveredRows
