use Rattle.std.proofs.Common.{◌≡◌, ◌+◌, ◌%◌, sum, drop}
use Rattle.gdb_packets.proofs.replies.sum_of.Given as goal

abbrev pub invariant-bytes : goal.invariant-bytes
invariant-bytes l = (l.total + sum (drop l.byte-index l.bytes)) % 256 ≡ sum l.bytes % 256
