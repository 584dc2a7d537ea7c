pub mod Spelling
pub mod Reading
pub mod Journal
pub mod Meaning
pub mod Opening
pub mod Wal
