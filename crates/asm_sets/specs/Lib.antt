-- What the clauses of the crate cite.
pub mod Sets
