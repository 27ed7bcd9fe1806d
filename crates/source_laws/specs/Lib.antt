-- What the laws of emission cite.
pub mod Laws
