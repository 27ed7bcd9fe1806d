use Rattle.gdb_packets.proofs.EscapeLemmas.{reads_escapes}
use Rattle.gdb_packets.proofs.laws.escapes_law.Goals as goal

pub returns : goal.returns
returns c = reads_escapes
