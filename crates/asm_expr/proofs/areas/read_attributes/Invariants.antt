use Rattle.std.proofs.Common.{◌≡◌, ◌++◌, ◌||◌, length, List}
use Rattle.std.specs.List.{list_any}
use Rattle.std.specs.Prelude.{Result}
use Rattle.sdt_fault.specs.declared.kinds.LineKind.{LineKind}
use Rattle.asm_model.specs.declared.exprs.Expr.{Expr}
use Rattle.asm_model.specs.Areas.{attributes_in, is_bad_word, ReadsAttributes}
use Rattle.asm_model.specs.Operands.{operands_at}
use Rattle.asm_expr.proofs.ReadingLemmas.{both_lists}
use Rattle.asm_expr.proofs.areas.read_attributes.Given as goal

abbrev pub invariant-operands : goal.invariant-operands
invariant-operands l = record {
  words : l.written.words.items ++ attributes_in l.text (operands_at l.text 0 l.left) ≡ attributes_in l.text (operands_at l.text 0 l.tokens);
  other : l.written.has_other || list_any (is_bad_word l.text) (operands_at l.text 0 l.left) ≡ list_any (is_bad_word l.text) (operands_at l.text 0 l.tokens);
  alignments : (b : Result (List Expr) LineKind) → ReadsAttributes l.text (operands_at l.text 0 l.left) b
      → ReadsAttributes l.text (operands_at l.text 0 l.tokens) (both_lists l.written.alignments b);
}

abbrev pub decreases-operands : goal.decreases-operands
decreases-operands l = length l.left
