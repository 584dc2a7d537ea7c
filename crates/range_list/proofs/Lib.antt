pub mod FoundByPlace
pub mod NextPlaces
