-- What the clauses of the crate cite.
pub mod Numerals
pub mod Table
pub mod Items
pub mod Rules
pub mod Seen
pub mod Commands
pub mod Laws
