pub mod NamingLemmas
pub mod TableLemmas
pub mod PassLemmas
pub mod KeptLemmas
pub mod Rows
