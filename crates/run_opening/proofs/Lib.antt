pub mod EvenLemmas
pub mod OpeningLemmas
pub mod PageLemmas
pub mod PutLemmas
pub mod RoomLemmas
