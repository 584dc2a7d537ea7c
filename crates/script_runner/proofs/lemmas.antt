pub mod GoodFiles
pub mod Kept
pub mod MadeCalls
pub mod Makings
