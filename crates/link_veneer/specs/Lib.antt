pub mod Fields
pub mod Targets
pub mod Needing
pub mod Interworking
pub mod Planning
pub mod Laws
