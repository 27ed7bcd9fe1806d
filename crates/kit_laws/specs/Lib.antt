pub mod Beside
pub mod Rules
pub mod Struck
pub mod Aligned
pub mod Handler
pub mod Laws
