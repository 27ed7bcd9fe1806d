-- What the clauses of the crate cite.
pub mod Expands
pub mod Gets
pub mod Known
pub mod Operations
pub mod Pairing
pub mod Prototypes
pub mod Standing
pub mod States
pub mod Steps
pub mod Substitution
pub mod Words
