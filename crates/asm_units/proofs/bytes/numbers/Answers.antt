use Rattle.std.proofs.Common.{refl}
use Rattle.asm_model.specs.declared.exprs.Expr.{Expr}
use Rattle.source_model.specs.Contexts.{number_in}
use Rattle.source_model.specs.Units.{Bytes, narrow, number_units}
use Rattle.asm_model.specs.Readings.{and_then, mapped}
use Rattle.asm_instructions.specs.Lookups.{context_of}
use Rattle.asm_units.specs.Emitting.{all_emitted, emitted_of}
use Rattle.asm_units.proofs.JoinLemmas.{operand_next}
use Rattle.asm_units.proofs.bytes.numbers.Goals as goal

pub operands-preserved : goal.operands-preserved
operands-preserved c =
    let seen = context_of c.args.tables.now.lookup in
    operand_next (λ b. Bytes b) (λ (e : Expr). and_then (number_in seen e) (narrow c.args.width)) (number_units seen c.args.width)
    (number_units seen c.args.width) (λ e es. refl)
    c.operands.left.now c.operand-item.result (all_emitted c.operands.so_far) (all_emitted c.in_ok-so_far-in-len1-up.so_far)
    (mapped emitted_of c.in_ok-next-in-len1-up.next)
    (number_units seen c.args.width c.args.operands.now)
    c.operands.invariant c.in-len1-up.len_at_least c.operand-item.is c.in_ok-so_far-in-len1-up.ensures c.in_ok-next-in-len1-up.ensures
