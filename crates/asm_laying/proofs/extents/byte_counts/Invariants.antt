use Rattle.std.proofs.Common.{◌≡◌, ◌≤◌, ◌+◌, ◌++◌, length}
use Rattle.std.specs.Prelude.{min}
use Rattle.asm_model.specs.Extents.{byte_counts}
use Rattle.asm_model.specs.Said.{AllRead}
use Rattle.asm_expr.specs.Seeing.{seen_names}
use Rattle.asm_laying.specs.Reading.{most_bytes, marks}
use Rattle.asm_laying.proofs.extents.byte_counts.Given as goal

abbrev pub invariant-operands : goal.invariant-operands
invariant-operands l =
    AllRead l.left × (l.bytes ≤ most_bytes)
    × (min (l.bytes + byte_counts (seen_names l.seen) l.left) most_bytes ≡ min (byte_counts (seen_names l.seen) l.operands) most_bytes)
    × (l.strings.items ++ marks (seen_names l.seen) l.left ≡ marks (seen_names l.seen) l.operands)

abbrev pub decreases-operands : goal.decreases-operands
decreases-operands l = length l.left
