pub mod KeptRows
pub mod TouchedRows
