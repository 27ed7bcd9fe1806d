pub mod BigLemmas
mod BytesLemmas
mod ShapeLemmas
pub mod StatementLemmas
