-- What the clauses of the crate cite.
pub mod Escapes
pub mod Fields
pub mod Forms
pub mod Framing
pub mod Heard
pub mod Replies
pub mod Requests
pub mod Shown
pub mod Target
