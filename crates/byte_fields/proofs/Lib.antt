pub mod BigEndian
pub mod lemmas
