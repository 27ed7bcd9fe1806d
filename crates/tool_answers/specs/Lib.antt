-- What the clauses of the crate cite.
pub mod Inputs
pub mod Outcomes
