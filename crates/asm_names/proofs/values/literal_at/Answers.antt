use Rattle.std.proofs.Common.{sym, ◌∙◌}
use Rattle.asm_expr.specs.Seeing.{seen_names}
use Rattle.asm_names.proofs.ValueLemmas.{sees_literal, sees_settled}
use Rattle.asm_names.proofs.values.literal_at.Goals as goal

pub returns-then-is_settled : goal.returns-then-is_settled
returns-then-is_settled c =
    sees_settled (seen_names c.args.seen.now) c.args.e.now.items c.value_seen-value.result c.value_seen-value.ensures
    (sym c.is_settled.ensures ∙ c.if-is_settled.true)

pub returns : goal.returns
returns c =
    rw c.place_or_forward.ensures
    (sees_literal (seen_names c.args.seen.now) c.args.e.now.items c.value_seen-value.result c.kept_value.result c.value_seen-value.ensures
    (sym c.is_settled.ensures ∙ c.if-is_settled.false) c.kept_value.ensures)
