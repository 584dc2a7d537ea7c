pub mod Histories
pub mod Own
pub mod Safe
