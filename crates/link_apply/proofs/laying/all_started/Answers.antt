use Rattle.std.proofs.Common.{◌≡◌, take, length, sym, ap, ◌∙◌, refl}
use Rattle.std.specs.Prelude.{slice_get, Some}
use Rattle.std.proofs.lemmas.Option.{slice_get_read}
use Rattle.link_apply.specs.Pieces.{grown_from, laid_from}
use Rattle.link_apply.proofs.PatchingLemmas.{next_taken}
use Rattle.link_apply.proofs.PieceLemmas.{started_more}
use Rattle.link_apply.proofs.laying.all_started.Goals as goal

pub regions-preserved : goal.regions-preserved
regions-preserved c = λ rest i.
    let rs = c.args.regions.now in
    let k = c.regions.region-index in
    let there : slice_get rs k ≡ Some c.region-item.result = slice_get_read rs (length rs) k c.region-item.result refl c.regions-test.true c.region-item.is in
    ap (λ gs. grown_from rest i gs) c.in_ok-push.ensures.items
    ∙ started_more i c.regions.growing.items (take k rs) (λ more. c.regions.invariant more i) (record { bytes = c.new.result; at = c.region-item.result.base; length = c.region-item.result.length }) c.region-item.result
    c.new.ensures.items refl refl rest
    ∙ ap (λ l. laid_from rest i l) (sym (next_taken rs k c.region-item.result there))
