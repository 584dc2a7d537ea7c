pub mod Entries
pub mod HalfLists
pub mod GivenLists
