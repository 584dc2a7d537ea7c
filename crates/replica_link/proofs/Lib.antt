pub mod Distinct
pub mod Names
pub mod lemmas
