-- What the clauses of the crate cite.
pub mod Sizes
pub mod Linking
pub mod Moves
pub mod Placing
pub mod Images
pub mod Tables
pub mod Reports
pub mod Laws
