use Rattle.std.proofs.Common.{ℕ, false, cond, List, Some, ap, ◌∙◌}
use Rattle.std.specs.Str.{bytes_eq}
use Rattle.link_select.specs.Index.{number_in}
use Rattle.link_select.proofs.RegionLemmas.{names_more}
use Rattle.link_select.proofs.regions.index_names.Goals as goal

pub loop-name-preserved : goal.loop-name-preserved
loop-name-preserved c = λ q.
    names_more c.loop-name.index c.put.new.index false c.args.names.now c.loop-name.name-index c.name-item.result q c.loop-name-test.true c.name-item.is (c.loop-name.invariant q)
    (c.in_ok-put.ensures q ∙ ap (λ (n : List ℕ). cond (bytes_eq n q) (Some 0) (number_in c.loop-name.index q)) c.as_slice.ensures)
