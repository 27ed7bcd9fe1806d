use Rattle.gdb_packets.proofs.StreamLemmas.{hears_framed}
use Rattle.gdb_packets.proofs.laws.framed_law.Goals as goal

pub returns : goal.returns
returns c = hears_framed
