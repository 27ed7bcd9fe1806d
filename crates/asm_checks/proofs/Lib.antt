mod AreaLemmas
pub mod LateLemmas
mod LineLemmas
pub mod StartLemmas
pub mod ToldLemmas
