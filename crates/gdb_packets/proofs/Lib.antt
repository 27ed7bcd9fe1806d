pub mod EscapeLemmas
pub mod FieldLemmas
pub mod FormLemmas
pub mod RangeLemmas
pub mod StreamLemmas
