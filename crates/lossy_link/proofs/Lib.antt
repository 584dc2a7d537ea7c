pub mod InStep
pub mod Sendings
pub mod Senders
pub mod MemWires
pub mod Follow
