pub mod Computing
pub mod Rows
pub mod RunLemmas
pub mod WordLemmas
