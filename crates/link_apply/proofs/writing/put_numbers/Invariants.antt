use Rattle.std.proofs.Common.{◌≡◌, length}
use Rattle.link_apply.proofs.WriteLemmas.{AreWritten}
use Rattle.link_apply.proofs.writing.put_numbers.Given as goal

abbrev pub invariant-loop-i : goal.invariant-loop-i
invariant-loop-i l = (length l.bytes ≡ length l.fn.bytes) × AreWritten l.fn.bytes l.relocs l.numbers l.i l.bytes
