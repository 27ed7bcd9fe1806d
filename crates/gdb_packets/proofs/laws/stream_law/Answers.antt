use Rattle.gdb_packets.proofs.StreamLemmas.{hears_stream}
use Rattle.gdb_packets.proofs.laws.stream_law.Goals as goal

pub returns : goal.returns
returns c = hears_stream
