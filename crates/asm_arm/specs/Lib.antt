-- What the clauses of the crate cite.
pub mod Addresses
pub mod LineForms
pub mod Lists
pub mod Mnemonics
pub mod Operands
pub mod Stems
pub mod Steps
