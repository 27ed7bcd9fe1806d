mod AcceptLemmas
mod FaultLemmas
mod LineLemmas
