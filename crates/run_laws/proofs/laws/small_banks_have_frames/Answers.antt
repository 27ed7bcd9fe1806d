use Rattle.run_laws.proofs.SmallBanks.{small-banks-have-frames}
use Rattle.run_laws.proofs.laws.small_banks_have_frames.Goals as goal

pub returns : goal.returns
returns c = small-banks-have-frames
