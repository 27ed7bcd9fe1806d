pub mod ArmRows
pub mod Codes
