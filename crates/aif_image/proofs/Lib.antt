pub mod CheckLaws
pub mod WrittenLemmas
