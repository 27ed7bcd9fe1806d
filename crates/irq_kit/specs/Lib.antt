pub mod Kit
pub mod Transparent
