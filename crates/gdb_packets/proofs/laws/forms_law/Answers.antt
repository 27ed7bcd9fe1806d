use Rattle.gdb_packets.proofs.FormLemmas.{reads_forms}
use Rattle.gdb_packets.proofs.laws.forms_law.Goals as goal

pub returns : goal.returns
returns c = reads_forms
