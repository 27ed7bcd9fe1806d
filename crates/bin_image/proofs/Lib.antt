mod Cuts
mod Digits
mod LineLaws
mod Steps
mod Pieces
mod MapLaws
mod RangeLemmas
pub mod Rows
