pub mod CheckLaws
pub mod HeaderLemmas
pub mod NamedLemmas
pub mod SectionLemmas
pub mod SymbolLemmas
pub mod WrittenLemmas
