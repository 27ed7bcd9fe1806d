-- What the clauses of the crate cite.
pub mod Emitting
pub mod Literals
pub mod Marked
pub mod Showing
pub mod Listing
pub mod Passing
pub mod Recording
