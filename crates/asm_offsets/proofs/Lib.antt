mod EndLemmas
pub mod ExtentLemmas
mod PlaceLemmas
mod WordLemmas
