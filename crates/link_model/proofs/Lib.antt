pub mod LinkedOnce
pub mod NeedLemmas
pub mod WayLemmas
pub mod Rows
