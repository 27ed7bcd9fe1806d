-- What the clauses of the crate cite.
pub mod AreaSteps
pub mod Beginnings
pub mod Evaluating
pub mod FormSteps
pub mod Known
pub mod Parsing
pub mod Places
pub mod Seeing
pub mod SentenceSteps
pub mod Steps
