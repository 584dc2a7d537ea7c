pub mod Places
pub mod Rise
pub mod Views
