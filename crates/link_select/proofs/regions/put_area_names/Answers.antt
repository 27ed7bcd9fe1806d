use Rattle.std.proofs.Common.{ℕ, cond, List, Some, ap, ◌∙◌}
use Rattle.std.specs.Prelude.{is_some}
use Rattle.std.specs.Str.{bytes_eq}
use Rattle.link_select.specs.Index.{number_in}
use Rattle.link_select.proofs.RegionLemmas.{area_names_more}
use Rattle.link_select.proofs.regions.put_area_names.Goals as goal

pub loop-area-preserved : goal.loop-area-preserved
loop-area-preserved c = λ q.
    area_names_more c.loop-area.index c.put.new.index (is_some (number_in c.args.index.now q)) c.args.areas.now c.loop-area.area-index c.area-item.result q c.loop-area-test.true c.area-item.is (c.loop-area.invariant q)
    (c.in_ok-put.ensures q ∙ ap (λ (n : List ℕ). cond (bytes_eq n q) (Some 0) (number_in c.loop-area.index q)) c.as_slice.ensures)
