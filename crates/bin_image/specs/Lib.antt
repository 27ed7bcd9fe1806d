-- What the clauses of the crate cite.
pub mod Fields
pub mod Maps
pub mod Ranges
pub mod Reading
pub mod Files
