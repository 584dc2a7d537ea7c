pub mod Converts
pub mod Drops
pub mod Frees
pub mod Grants
pub mod Links
