pub mod WordsRead
pub mod CodeSteps
pub mod BootLoops
pub mod ViewLemmas
pub mod MapLemmas
pub mod Ordinary
pub mod BootPlaces
pub mod AifRuns
pub mod AifImage
mod Counts
