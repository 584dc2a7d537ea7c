-- Sessions through the calls of a history: who is logged on, and how long a unit stays open.
pub mod NamedSessions
pub mod LoggedSessions
pub mod EndedUnits
pub mod OpenSessions
