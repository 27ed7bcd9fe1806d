use Rattle.std.proofs.Common.{◌≡◌, ◌≤◌, ◌-◌, length, take, drop}
use Rattle.asm_model.specs.Operands.{operands_at, lengthened}
use Rattle.asm_expr.proofs.operands.comma.Given as goal

abbrev pub invariant-tokens : goal.invariant-tokens
invariant-tokens l = record {
  cut : operands_at l.text 0 l.tokens ≡ lengthened (take l.place l.tokens) (operands_at l.text l.depth (drop l.place l.tokens));
  shallow : l.depth ≤ l.place;
  within : l.place ≤ length l.tokens;
}

abbrev pub decreases-tokens : goal.decreases-tokens
decreases-tokens l = length l.tokens - l.place
