use Rattle.std.proofs.Common.{◌∙◌, List, map, sym, ap, subst}
use Rattle.std.proofs.lemmas.List.{take_all}
use Rattle.asm_laying.specs.declared.laying.LaidStatement.{LaidStatement}
use Rattle.asm_names.specs.declared.placed_lines.PlacedLine.{PlacedLine}
use Rattle.asm_names.specs.Source.{AreEach}
use Rattle.asm_layout.proofs.LateLemmas.{each_of}
use Rattle.asm_layout.proofs.placed_lines.lines_of.Goals as goal

pub returns : goal.returns
returns c = λ all h.
    subst (λ (ys : List PlacedLine). AreEach all ys)
    (sym (c.laid.invariant ∙ ap (map (λ (x : LaidStatement). x.line)) (take_all c.laid.statement-index c.args.laid.now c.laid-test.false)))
    (each_of all c.args.laid.now h)
