-- What the clauses of the crate cite.
pub mod ArmTexts
pub mod Elfs
pub mod Images
pub mod Listings
pub mod Parts
pub mod Pieces
pub mod Readings
pub mod ThumbTexts
