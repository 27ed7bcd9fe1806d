-- What the clauses of the crate cite.
pub mod Steps
pub mod Values
pub mod Equals
pub mod Index
pub mod Laws
pub mod Order
pub mod Search
pub mod Defining
pub mod PlacedLines
pub mod Owing
pub mod Source
