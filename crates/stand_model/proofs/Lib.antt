pub mod OneWord
pub mod Rows
pub mod OneLine
pub mod SourceRows
