pub mod LostLocks
pub mod MadeAnew
pub mod NotMade
pub mod OverRead
