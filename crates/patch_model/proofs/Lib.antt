pub mod SumLemmas
pub mod BranchLemmas
pub mod VeneerLemmas
pub mod PatchLemmas
mod Rows
