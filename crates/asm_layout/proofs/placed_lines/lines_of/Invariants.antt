use Rattle.std.proofs.Common.{◌≡◌, take, map}
use Rattle.asm_laying.specs.declared.laying.LaidStatement.{LaidStatement}
use Rattle.asm_layout.proofs.placed_lines.lines_of.Given as goal

abbrev pub invariant-laid : goal.invariant-laid
invariant-laid l = l.lines.items ≡ map (λ (x : LaidStatement). x.line) (take l.statement-index l.laid)
