pub mod Lists
pub mod Naming
pub mod Places
pub mod Turns
