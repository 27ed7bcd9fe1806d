pub mod NumeralLemmas
pub mod ItemLemmas
pub mod SeenLemmas
pub mod GoodLemmas
pub mod TellLemmas
pub mod LawLemmas
