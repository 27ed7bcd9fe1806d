pub mod DigitLemmas
pub mod DirectiveLemmas
pub mod EvalLemmas
mod FormLemmas
mod KnownLemmas
mod MadeLemmas
pub mod NameLemmas
pub mod OperandLemmas
pub mod ParseLaws
pub mod PlaceLemmas
pub mod ReadingLemmas
pub mod RegisterLemmas
pub mod RowLemmas
pub mod SayingLemmas
mod SlotLemmas
pub mod Spelled
pub mod StackLemmas
