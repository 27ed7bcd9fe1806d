pub mod BaseLemmas
