-- What the laws of placed objects cite.
pub mod Laws
