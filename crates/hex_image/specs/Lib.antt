-- What the clauses of the crate cite.
pub mod Images
pub mod Ranges
pub mod Digits
pub mod Ihex
pub mod Srec
pub mod Reading
pub mod Readers
pub mod Writing
pub mod Reads
pub mod Laws
pub mod Faults
pub mod Examples
