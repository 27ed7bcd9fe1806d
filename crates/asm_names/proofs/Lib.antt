pub mod EntryLemmas
pub mod ItemLemmas
pub mod ValueLemmas
pub mod CallLemmas
pub mod IndexLemmas
pub mod ListLemmas
pub mod LookLemmas
pub mod OrderLemmas
pub mod SearchLemmas
pub mod SettledLemmas
mod MatchLemmas
mod OnceLemmas
mod SettleLemmas
mod SourceLemmas
