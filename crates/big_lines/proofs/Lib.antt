mod DataLemmas
pub mod DigitLemmas
mod FixedLemmas
pub mod RowLemmas
pub mod SayLemmas
mod StepLemmas
pub mod TextLemmas
pub mod TokenLemmas
mod WholeLemmas
