-- What the clauses of the crate cite.
pub mod Giving
pub mod Kept
pub mod Scoped
