pub mod FieldLaws
pub mod Loop
