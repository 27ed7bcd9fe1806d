-- What the clauses of the crate cite.
pub mod Strings
pub mod Runs
pub mod Turns
pub mod Quiets
