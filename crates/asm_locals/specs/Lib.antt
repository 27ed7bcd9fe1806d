-- What the clauses of the crate cite.
pub mod Labels
pub mod Naming
pub mod Passes
