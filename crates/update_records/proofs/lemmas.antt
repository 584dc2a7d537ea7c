pub mod Distinct
pub mod TableLaws
pub mod UnitRecords
pub mod BusinessTexts
