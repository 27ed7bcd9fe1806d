-- Steps of the code.
pub mod Lengths
pub mod Scans
pub mod Steps
