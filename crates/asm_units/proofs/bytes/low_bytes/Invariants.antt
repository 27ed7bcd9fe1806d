use Rattle.std.proofs.Common.{◌≡◌, ◌-◌, ◌++◌, ◌≤◌}
use Rattle.sdt_word.specs.Bytes.{bytes_of}
use Rattle.asm_units.proofs.bytes.low_bytes.Given as goal

abbrev pub invariant-loop-at : goal.invariant-loop-at
invariant-loop-at l = (l._at ≤ l.width) × (l.bytes.items ++ bytes_of l.left (l.width - l._at) ≡ bytes_of l.number l.width)
