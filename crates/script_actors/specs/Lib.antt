pub mod Doers
pub mod Texts
pub mod Drawings
pub mod Actors
pub mod Carried
