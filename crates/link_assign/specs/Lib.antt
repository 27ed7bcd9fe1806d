pub mod Shown
pub mod Finding
pub mod Index
pub mod Keeping
pub mod Ordering
pub mod Assigning
