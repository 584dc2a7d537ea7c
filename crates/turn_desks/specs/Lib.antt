pub mod Parts
pub mod Led
pub mod Stocks
pub mod Handing
pub mod Draws
pub mod Asking
pub mod Watching
pub mod Weaving
