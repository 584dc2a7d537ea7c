pub mod starting
pub mod keeping
pub mod histories
pub mod open_units
