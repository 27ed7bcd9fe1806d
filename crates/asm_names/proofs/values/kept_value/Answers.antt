use Rattle.std.proofs.Common.{ap, ◌∙◌}
use Rattle.asm_expr.specs.Seeing.{seen_names}
use Rattle.asm_names.specs.Steps.{kept_items}
use Rattle.asm_names.proofs.ValueLemmas.{sees_kept}
use Rattle.asm_names.proofs.values.kept_value.Goals as goal

pub returns : goal.returns
returns c =
    sees_kept (seen_names c.args.seen.now) c.args.e.now.items c.from_vec.result c.value_seen.result
    (c.from_vec.ensures ∙ c.in_ok-items.ensures ∙ ap (kept_items (seen_names c.args.seen.now)) c.as_slice.ensures) c.value_seen.ensures
