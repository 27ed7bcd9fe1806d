pub mod Regions
pub mod Views
pub mod AifFiles
