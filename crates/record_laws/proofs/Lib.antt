pub mod Apart
pub mod Books
pub mod Keyed
pub mod Own
pub mod Status
pub mod CommittedNumbers
pub mod UnmarkedUnits
pub mod Batches
