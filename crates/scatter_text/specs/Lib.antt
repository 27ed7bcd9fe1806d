-- What the clauses of the crate cite.
pub mod Parts
pub mod Words
pub mod Grammar
pub mod Reading
pub mod Steps
pub mod Validity
pub mod Laws
