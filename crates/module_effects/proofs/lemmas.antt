pub mod Integers
pub mod Tables
