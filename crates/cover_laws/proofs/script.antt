-- A script that lacks nothing: what its lines ask for, and what they cover where they read and commit.
pub mod OwnLines
pub mod Findings
pub mod CommittedUnits
pub mod ExclusiveHeld
pub mod ArgumentLengths
pub mod EvenLengths
pub mod PlainFrees
pub mod CoveredReads
pub mod CoveredEffects
