pub mod Standing
pub mod Losing
