pub mod Entry
pub mod Made
pub mod Starts
