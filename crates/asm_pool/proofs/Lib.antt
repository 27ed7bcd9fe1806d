pub mod LawLemmas
mod LiteralLemmas
mod PoolLemmas
