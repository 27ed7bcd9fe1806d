pub mod Items
pub mod Assignment
pub mod Keys
pub mod Things
pub mod Plans
pub mod Faults
pub mod Laws
