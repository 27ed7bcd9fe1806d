pub mod Placed
pub mod Index
pub mod Bases
pub mod Regions
pub mod Values
pub mod Moving
pub mod Shifts
