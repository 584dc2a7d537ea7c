-- Calls of the histories that are meant: what they come to, and what they do to rows and to units.
pub mod QuietCalls
pub mod DrawnAlone
pub mod FittingReplies
pub mod MarkedCalls
pub mod PostedRows
pub mod WaitingUnits
pub mod WellUnits
