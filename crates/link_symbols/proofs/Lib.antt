pub mod LawLemmas
pub mod ShownLemmas
pub mod StartLemmas
pub mod TableLemmas
