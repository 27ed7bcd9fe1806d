pub mod ChokeLemmas
pub mod IdleLemmas
pub mod QuietLemmas
pub mod StringLemmas
pub mod TurnLemmas
