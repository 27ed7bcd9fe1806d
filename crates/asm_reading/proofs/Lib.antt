mod AddressLemmas
mod ArmLemmas
mod DirectiveLemmas
mod ExpressionLemmas
mod FitLemmas
mod FormLemmas
mod GivesLemmas
mod InstructionLemmas
mod LawLemmas
mod LineLemmas
mod ListLemmas
mod NameLemmas
mod OperandLemmas
pub mod ReadLemmas
pub mod SayingLemmas
mod ThumbLemmas
mod ThumbWordLemmas
mod TokenLemmas
