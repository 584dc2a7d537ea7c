pub mod StateBehind
pub mod OverFields
pub mod PresentCalls
pub mod Answering
pub mod AfterStop
pub mod OverStore
pub mod OverFile
pub mod FirstState
