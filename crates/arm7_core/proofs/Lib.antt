pub mod ArmParts
pub mod ArmSteps
pub mod MachineSteps
pub mod ResetLemmas
pub mod ReadyBuses
pub mod PartLemmas
pub mod ThumbSteps
pub mod ReadingLemmas
