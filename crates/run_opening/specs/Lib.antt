-- What the clauses of the crate cite.
pub mod Banks
pub mod Fills
pub mod Openings
