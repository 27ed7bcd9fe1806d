-- What the laws of final names cite.
pub mod Final
