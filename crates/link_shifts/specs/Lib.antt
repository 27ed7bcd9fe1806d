-- What the clauses of the crate cite.
pub mod Tells
pub mod Balances
pub mod Changes
pub mod Moves
