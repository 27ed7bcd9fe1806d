-- What the clauses of the crate cite.
pub mod Numerals
pub mod Commands
pub mod Scripts
pub mod Reasons
pub mod Points
pub mod Goes
pub mod Carried
pub mod Texts
pub mod Sessions
pub mod Desks
pub mod SessionLaws
