pub mod LoggedOn
pub mod OwnLocks
pub mod NotedSteps
pub mod StandingLocks
pub mod LockUsers
pub mod WithoutServer
pub mod ToldLosers
pub mod FlaggedSessions
