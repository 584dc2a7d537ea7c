-- The theorem: a row that a unit has read is covered until the unit is posted or refused, and so it stands.
pub mod MeantHistories
pub mod Places
pub mod WellHistories
pub mod Shields
pub mod Watches
pub mod Safety
pub mod Needed
