-- What the clauses of the crate cite.
pub mod Libraries
pub mod Linkables
pub mod Lists
pub mod Shown
