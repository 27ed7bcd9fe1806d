use Rattle.std.proofs.Common.{◌≡◌, drop, map, Some}
use Rattle.asm_model.specs.Parts.{part_of}
use Rattle.asm_expr.specs.Parsing.{parsed}
use Rattle.asm_expr.specs.Steps.{state_of}
use Rattle.asm_expr.proofs.read.take_all.Given as goal

abbrev pub invariant-tokens : goal.invariant-tokens
invariant-tokens l =
    parsed (Some (state_of l.parser)) (map (part_of l.text) (drop l.token-index l.tokens))
    ≡ parsed (Some (state_of l.initial.parser)) (map (part_of l.text) l.tokens)
