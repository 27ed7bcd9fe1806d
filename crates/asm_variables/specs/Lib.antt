-- What the clauses of the crate cite.
pub mod Entries
pub mod Expanding
pub mod Known
pub mod LineNames
pub mod Maps
pub mod Operands
pub mod Pairing
pub mod Steps
pub mod Substitution
pub mod Valued
pub mod Variables
