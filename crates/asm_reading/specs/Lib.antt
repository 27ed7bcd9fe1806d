-- What the clauses of the crate cite.
pub mod FlatLines
pub mod Laws
pub mod Says
