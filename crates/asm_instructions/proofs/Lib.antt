pub mod AlikeLemmas
pub mod ContextLemmas
pub mod FitLemmas
mod PlaceLemmas
mod RotationLemmas
mod ReadingLemmas
pub mod ThumbAlikeLemmas
pub mod ThumbFitLemmas
pub mod WordLemmas
mod LoneLemmas
