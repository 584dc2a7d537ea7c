pub mod Outbox
pub mod Growing
pub mod Report
pub mod Sends
