pub mod ThumbLemmas
