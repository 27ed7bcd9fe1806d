-- What the clauses of the crate cite.
pub mod Aifs
pub mod Burned
pub mod Burns
pub mod Elfs
pub mod Ends
pub mod Images
pub mod Openings
pub mod Runs
