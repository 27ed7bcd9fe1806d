pub mod SourceLemmas
