pub mod CalmLemmas
pub mod WordLemmas
