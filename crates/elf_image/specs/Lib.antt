-- What the clauses of the crate cite.
pub mod Checks
pub mod Examples
pub mod Files
pub mod NamedExamples
pub mod Reading
pub mod Symbols
pub mod Tables
