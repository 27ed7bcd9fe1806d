use Rattle.room_laws.proofs.RoomLemmas as lemmas
use Rattle.room_laws.proofs.default_bank_has_room.Goals as goal

pub returns : goal.returns
returns c = lemmas.default_bank_has_room
