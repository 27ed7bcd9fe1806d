pub mod Placing
pub mod Plans
pub mod Laws
pub mod Joins
pub mod AifJoins
pub mod AifStarts
