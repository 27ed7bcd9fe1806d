use Rattle.std.proofs.Common.{◌≡◌, ◌++◌, drop, false}
use Rattle.gdb_packets.specs.Fields.{unescaped}
use Rattle.gdb_packets.proofs.fields.unescaped.Given as goal

abbrev pub invariant-bytes : goal.invariant-bytes
invariant-bytes l = l.bytes.items ++ unescaped l.behind (drop l.byte-index l.text) ≡ unescaped false l.text
