pub mod RowFields
pub mod Firsts
pub mod ArmReadings
pub mod ThumbReadings
pub mod Names
pub mod Lines
