use Rattle.run_laws.proofs.SmallBanks.{small-banks-have-room}
use Rattle.run_laws.proofs.laws.small_banks_have_room.Goals as goal

pub returns : goal.returns
returns c = small-banks-have-room
