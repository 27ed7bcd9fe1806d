pub mod Laws
pub mod AifLaws
pub mod AifFiles
