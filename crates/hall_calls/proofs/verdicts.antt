pub mod EachCall
pub mod UnitCalls
pub mod Recording
pub mod NumberCalls
pub mod NextDraws
pub mod Ungranted
pub mod RegainedLocks
pub mod FoundChange
