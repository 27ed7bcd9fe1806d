-- What the clauses of the program cite.
pub mod Carried
pub mod Helps
pub mod Shown
