-- What emission cites.
pub mod ArmForms
pub mod Contexts
pub mod Immediates
pub mod Objects
pub mod PseudoForms
pub mod Registers
pub mod SourceFaults
pub mod ThumbForms
pub mod Units
pub mod ValueKinds
