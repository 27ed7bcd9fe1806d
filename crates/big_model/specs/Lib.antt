pub mod Sources
pub mod Statements
pub mod Words
