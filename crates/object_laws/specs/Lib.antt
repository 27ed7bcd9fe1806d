-- What the laws of objects cite.
pub mod Laws
