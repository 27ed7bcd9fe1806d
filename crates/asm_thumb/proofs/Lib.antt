pub mod LawLemmas
pub mod LineRows
