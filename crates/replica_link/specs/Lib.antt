pub mod Operations
pub mod Linking
pub mod Memory
pub mod Shipping
