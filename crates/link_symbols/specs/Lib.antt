-- What the clauses of the crate cite.
pub mod Sections
pub mod Shown
pub mod Marks
pub mod Starts
pub mod Symbols
pub mod Laws
pub mod Examples
