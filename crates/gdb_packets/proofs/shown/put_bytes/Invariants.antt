use Rattle.std.proofs.Common.{◌≡◌, ◌++◌, drop}
use Rattle.gdb_packets.specs.Shown.{bytes_shown}
use Rattle.gdb_packets.proofs.shown.put_bytes.Given as goal

abbrev pub invariant-bytes : goal.invariant-bytes
invariant-bytes l = l.out.items ++ bytes_shown (drop l.byte-index l.bytes) ≡ l.initial.out.items ++ bytes_shown l.bytes
