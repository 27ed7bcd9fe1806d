pub mod BurnLemmas
pub mod BurnedLemmas
pub mod ElfLemmas
pub mod NeedLemmas
pub mod ReadLemmas
pub mod RunLemmas
