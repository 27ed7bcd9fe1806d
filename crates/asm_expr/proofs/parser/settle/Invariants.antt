use Rattle.std.proofs.Common.{◌≡◌, reverse, vec_len}
use Rattle.asm_expr.specs.Parsing as parsing
use Rattle.asm_expr.proofs.parser.settle.Given as goal

abbrev pub invariant-tops : goal.invariant-tops
invariant-tops l = parsing.settled l.limit l.items.items (reverse l.stack.items) ≡ parsing.settled l.limit l.initial.items.items (reverse l.initial.stack.items)

abbrev pub decreases-tops : goal.decreases-tops
decreases-tops l = vec_len l.stack
