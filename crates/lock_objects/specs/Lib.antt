pub mod Objects
pub mod Arguments
