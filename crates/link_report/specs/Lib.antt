-- What the clauses of the crate cite.
pub mod Lines
pub mod Regions
pub mod Symbols
pub mod Members
pub mod Selections
pub mod Keys
pub mod Reports
pub mod Shown
