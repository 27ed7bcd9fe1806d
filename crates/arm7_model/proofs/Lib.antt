pub mod Opens
mod Examples
pub mod MemoryLemmas
pub mod Steps
pub mod Leading
pub mod Placed
pub mod TransferLemmas
pub mod StepLaws
pub mod ValidRegisters
pub mod ValidValues
pub mod ValidEffects
pub mod ValidTransfers
pub mod ValidSteps
pub mod ValidThumb
