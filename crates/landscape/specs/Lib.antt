pub mod Tables
pub mod Document
pub mod Objects
pub mod Ranges
pub mod Landscape
pub mod Reading
pub mod Seen
pub mod Broken
