-- What the clauses of the crate cite.
pub mod Fits
pub mod Leads
pub mod Lone
pub mod Lookups
pub mod ThumbFits
pub mod ThumbGroups
