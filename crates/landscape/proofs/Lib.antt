mod Views
mod Turns
mod EachSteps
mod Widths
mod Takings
mod Whole
pub mod lemmas
