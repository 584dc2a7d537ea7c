-- What each part of the proof takes from the others, as statements.
pub mod CoverageNeeded
pub mod LinesNeeded
pub mod LocksNeeded
pub mod HoldingNeeded
pub mod HallNeeded
pub mod AllNeeded
