-- What the clauses of the crate cite.
pub mod Data
pub mod Frames
pub mod LineForms
pub mod Mnemonics
pub mod Operands
pub mod Steps
pub mod Transfers
