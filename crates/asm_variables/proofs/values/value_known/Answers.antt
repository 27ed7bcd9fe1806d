use Rattle.std.proofs.Common.{◌≡◌, ◌++◌, [], List, None, ap, append-nil, ◌∙◌}
use Rattle.asm_expr.specs.Places.{one_entry}
use Rattle.asm_model.specs.declared.exprs.ExprItem.{ExprItem}
use Rattle.asm_variables.specs.Entries.{items_entries}
use Rattle.asm_variables.specs.Known.{all_entries}
use Rattle.asm_variables.proofs.ValueLemmas.{with_small}
use Rattle.asm_variables.proofs.values.value_known.Goals as goal

pub returns : goal.returns
returns c =
    λ s r.
    let all = c.in_ok-entries.entries in
    let list : all.names ++ one_entry all.last ++ [] ≡ items_entries (all_entries c.args.visible s) c.args.e.now.items =
    append-nil (all.names ++ one_entry all.last) ∙ c.in_ok-entries.ensures s r
    ∙ ap (λ (is : List ExprItem). items_entries (all_entries c.args.visible s) is) c.as_slice.ensures in
    with_small c.args.visible s c.args.e.now.items _ c.value_seen.result
    (c.seen_among-seen.ensures ∙ (λ i. record { list = list i; area = None; offset = 0; map = 0; thumb = r.thumb i }))
    c.value_seen.ensures
