-- What the clauses of emission and linking cite.
pub mod Fields
pub mod Laws
pub mod Patched
pub mod Reaches
