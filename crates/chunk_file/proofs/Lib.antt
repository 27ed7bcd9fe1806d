pub mod Loops
pub mod Guards
pub mod Places
pub mod Words
pub mod Table
pub mod Spelling
