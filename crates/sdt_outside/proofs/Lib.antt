pub mod FileMaps
pub mod SharedLemmas
