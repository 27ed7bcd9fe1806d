-- What the clauses of the crate cite.
pub mod Sources
