pub mod LoadLemmas
pub mod MadeLemmas
pub mod Rows
pub mod ValidLemmas
pub mod WithinLemmas
pub mod PlaceLemmas
mod SizeLaws
mod NameLaws
