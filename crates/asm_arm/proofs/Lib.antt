pub mod CutLemmas
pub mod LawLemmas
pub mod ListLemmas
pub mod StemLemmas
