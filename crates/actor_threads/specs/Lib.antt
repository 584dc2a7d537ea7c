pub mod Working
pub mod Last
