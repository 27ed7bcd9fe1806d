pub mod MovingLemmas
mod RegionLemmas
mod ValueLemmas
pub mod FirstLemmas
