-- What the clauses of checks cite.
pub mod Areas
pub mod Checked
pub mod Large
pub mod Late
pub mod Starts
pub mod States
