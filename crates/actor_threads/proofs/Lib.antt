pub mod Gathered
pub mod Seen
pub mod Alone
pub mod Told
pub mod Lots
pub mod Sends
