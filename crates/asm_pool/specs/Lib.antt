-- What the clauses of layout and emission cite.
pub mod Index
pub mod Laws
pub mod Pooled
