use Rattle.std.proofs.Common.{sym, ◌∙◌, arith}
use Rattle.asm_expr.proofs.RowLemmas.{other_length, other_letter}
use Rattle.asm_expr.proofs.rows.is_name.Goals as goal

pub returns-then-name-word : goal.returns-then-name-word
returns-then-name-word c = sym (other_length c.args.name.now c.args.word.now (omega arith))

pub returns-then-not-begins_alike : goal.returns-then-not-begins_alike
returns-then-not-begins_alike c =
    sym (other_letter c.args.word.now c.args.name.now (sym c.begins_alike.ensures ∙ c.if-not-begins_alike.true))
