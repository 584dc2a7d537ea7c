pub mod ModeNumbers
