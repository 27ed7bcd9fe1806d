use Rattle.asm_registers.proofs.NameLemmas.{between_next}
use Rattle.asm_registers.proofs.giving.register_names.Goals as goal

pub statements-preserved : goal.statements-preserved
statements-preserved c =
    between_next c.args.statements.now c.statements.left.now c.statement-item.result c.statements.all c.note_name.new.all
    c.statements.invariant c.in-len1-up.len_at_least c.statement-item.is c.in_ok-note_name-in-len1-up.ensures
