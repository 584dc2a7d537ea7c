pub mod Parts
pub mod Places
pub mod Watched
pub mod Seating
pub mod HandedOver
