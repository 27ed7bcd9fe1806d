use Rattle.std.proofs.Common.{refl}
use Rattle.asm_model.specs.declared.exprs.Expr.{Expr}
use Rattle.asm_model.specs.Readings.{mapped}
use Rattle.source_model.specs.Contexts.{value_of}
use Rattle.source_model.specs.Units.{Bytes}
use Rattle.asm_instructions.specs.Lookups.{context_of}
use Rattle.asm_units.specs.Emitting.{all_emitted, emitted_of}
use Rattle.asm_units.specs.Marked.{first_mark, other_marks, marked_operand, marked_units}
use Rattle.asm_units.proofs.JoinLemmas.{operand_next}
use Rattle.asm_units.proofs.bytes.bytes.Goals as goal

pub operands-preserved : goal.operands-preserved
operands-preserved c =
    let seen = context_of c.args.tables.now.lookup in
    let marks = c.operands.marks.now in
    rw c.other_marks-marks.ensures
    (operand_next (λ b. Bytes b) (λ (e : Expr). marked_operand (first_mark marks) (value_of seen e)) (marked_units seen marks)
    (marked_units seen (other_marks marks)) (λ e es. refl)
    c.operands.left.now c.operand-item.result (all_emitted c.operands.so_far) (all_emitted c.in_ok-so_far-in-len1-up.so_far)
    (mapped emitted_of c.in_ok-next-in-len1-up.next)
    (marked_units seen c.args.tables.now.strings.now c.args.operands.now)
    c.operands.invariant c.in-len1-up.len_at_least c.operand-item.is c.in_ok-so_far-in-len1-up.ensures
    (rw c.first_mark.ensures at c.in_ok-next-in-len1-up.ensures))
