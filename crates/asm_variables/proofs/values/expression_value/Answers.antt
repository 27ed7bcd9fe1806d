use Rattle.std.proofs.Common.{List, sym, ap, ◌∙◌}
use Rattle.std.specs.Prelude.{Ok}
use Rattle.asm_model.specs.declared.exprs.ExprItem.{ExprItem}
use Rattle.asm_model.specs.Kinds.{told_kind}
use Rattle.expand_model.specs.Known.{value_with}
use Rattle.asm_variables.specs.Known.{entries_in, items_kinds}
use Rattle.asm_variables.proofs.ValueLemmas.{given_each, value_of_items}
use Rattle.asm_variables.proofs.values.expression_value.Goals as goal

pub returns-in-Some : goal.returns-in-Some
returns-in-Some c =
    λ s r.
    sym
    (value_of_items c.args.visible s c.args.e.now c.requires _
    (sym c.in-Some.is ∙ c.items_fault.ensures s r ∙ ap (λ (is : List ExprItem). told_kind (items_kinds (entries_in c.args.visible s) is)) c.as_slice.ensures))

pub returns : goal.returns
returns c =
    given_each c.args.visible c.args.state.now (Ok c.args.e.now) c.told_value.result
    (λ s r.
    let meant =
    value_of_items c.args.visible s c.args.e.now c.requires _
    (sym c.in_default.is ∙ c.items_fault.ensures s r ∙ ap (λ (is : List ExprItem). told_kind (items_kinds (entries_in c.args.visible s) is))
    c.as_slice.ensures) in
    c.told_value.ensures (value_with s (entries_in c.args.visible s) (Ok c.args.e.now))
    (rw meant (c.value_known.ensures s r c.requires.parts c.requires.tree c.requires.spelled c.requires.are)))
