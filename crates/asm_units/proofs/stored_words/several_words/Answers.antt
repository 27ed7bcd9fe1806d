use Rattle.std.proofs.Common.{refl}
use Rattle.asm_model.specs.declared.exprs.Expr.{Expr}
use Rattle.asm_model.specs.Readings.{mapped}
use Rattle.source_model.specs.Contexts.{value_of}
use Rattle.source_model.specs.Units.{Word, stored, word_units}
use Rattle.asm_instructions.specs.Lookups.{context_of}
use Rattle.asm_units.specs.Emitting.{all_emitted, emitted_of}
use Rattle.asm_units.proofs.JoinLemmas.{operand_next}
use Rattle.asm_units.proofs.stored_words.several_words.Goals as goal

pub operands-preserved : goal.operands-preserved
operands-preserved c =
    let seen = context_of c.args.tables.now.lookup in
    let labels = c.args.tables.now.data.now in
    operand_next (λ w. Word w) (λ (e : Expr). stored seen labels (value_of seen e)) (word_units seen labels) (word_units seen labels) (λ e es. refl)
    c.operands.left.now c.operand-item.result (all_emitted c.operands.so_far) (all_emitted c.in_ok-so_far-in-len1-up.so_far)
    (mapped emitted_of c.in_ok-next-in-len1-up.next)
    (word_units seen labels c.args.operands.now)
    c.operands.invariant c.in-len1-up.len_at_least c.operand-item.is c.in_ok-so_far-in-len1-up.ensures c.in_ok-next-in-len1-up.ensures
