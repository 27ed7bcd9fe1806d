pub mod NumberLemmas
pub mod LineLemmas
pub mod ScriptLemmas
pub mod ReadLemmas
mod Rows
pub mod StepLemmas
pub mod GoLemmas
pub mod DeskLemmas
pub mod SessionLemmas
pub mod LawLemmas
pub mod CutLemmas
pub mod CommandLemmas
pub mod DetachLemmas
pub mod TextLemmas
