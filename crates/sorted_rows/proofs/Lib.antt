pub mod Searches
pub mod Numbered
pub mod Rooms
pub mod lemmas
