mod ByteLemmas
pub mod JoinLemmas
pub mod KindLemmas
pub mod ShowLemmas
mod LineLemmas
pub mod PassLemmas
