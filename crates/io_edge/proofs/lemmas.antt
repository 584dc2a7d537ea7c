pub mod Knowns
pub mod LineLemmas
pub mod LinesRead
pub mod MoreBytes
