pub mod Before
pub mod Blocks
pub mod Lowering
pub mod Pushing
pub mod Finding
pub mod Turned
