-- What the clauses of layout and emission cite.
pub mod Coded
pub mod Finished
pub mod Laws
pub mod Running
pub mod Steps
