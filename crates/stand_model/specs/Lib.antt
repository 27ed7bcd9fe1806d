-- What the law of emission cites.
pub mod Placed
pub mod Shown
pub mod Stands
