-- The locks of an open unit through each call: it keeps those that its lines asked for, or its session has lost one.
pub mod CarriedHolds
pub mod GoneLocks
pub mod BareCommits
pub mod FailedOver
pub mod OwnHolding
pub mod OthersHolding
