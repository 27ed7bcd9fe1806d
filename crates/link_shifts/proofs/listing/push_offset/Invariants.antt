use Rattle.std.proofs.Common.{◌≡◌, ◌++◌, replicate}
use Rattle.link_shifts.proofs.listing.push_offset.Given as goal

abbrev pub invariant-loop-i : goal.invariant-loop-i
invariant-loop-i l = l.offsets.items ≡ l.initial.offsets.items ++ replicate l.i l.offset
