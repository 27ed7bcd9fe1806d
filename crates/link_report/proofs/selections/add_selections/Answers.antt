use Rattle.std.proofs.Common.{sym, ◌∙◌, ap, ◌||◌}
use Rattle.std.specs.List.{list_any}
use Rattle.std.proofs.lemmas.List.{at_drop_all}
use Rattle.link_report.specs.Keys.{has_key, is_alike, selection_at}
use Rattle.link_report.proofs.KeyLemmas.{key_alike}
use Rattle.link_report.proofs.SelectionLemmas.{list_on}
use Rattle.link_report.proofs.selections.add_selections.Goals as goal

pub loop-selection-preserved : goal.loop-selection-preserved
loop-selection-preserved c = λ q.
    list_on (λ s. is_alike s (selection_at q)) c.args.selections.now c.loop-selection.selection-index c.selection-item.result (has_key c.loop-selection.keys q) (has_key c.add.new.keys q) _ c.loop-selection-test.true c.selection-item.is
    (c.in_ok-add.ensures q ∙ ap (λ b. b || has_key c.loop-selection.keys q) (key_alike c.key_of.result c.selection-item.result c.key_of.ensures.home c.key_of.ensures.sought q))
    (c.loop-selection.invariant q)

pub returns : goal.returns
returns c = λ q.
    sym (at_drop_all (λ rest. list_any (λ s. is_alike s (selection_at q)) rest || has_key c.loop-selection.keys q) c.args.selections.now c.loop-selection.selection-index c.loop-selection-test.false)
    ∙ c.loop-selection.invariant q
