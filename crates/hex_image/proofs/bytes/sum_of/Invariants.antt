use Rattle.std.proofs.Common.{◌≡◌, ◌+◌, ◌%◌, sum, drop}
use Rattle.hex_image.proofs.bytes.sum_of.Given as goal

abbrev pub invariant-loop-byte : goal.invariant-loop-byte
invariant-loop-byte l = (l.total + sum (drop l.byte-index l.bytes)) % 256 ≡ sum l.bytes % 256
