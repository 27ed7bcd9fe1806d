use Rattle.std.proofs.Common.{List, ℕ, suc, ap, arith, ◌∙◌, ◌+◌, ◌≡◌, ◌∷◌, ◌++◌, drop}
use Rattle.std.specs.List.{flat_map}
use Rattle.std.proofs.lemmas.Grind.{common_steps}
use Rattle.link_model.specs.declared.placing.AreaName.{AreaName}
use Rattle.link_model.specs.declared.placing.Veneer.{Veneer}
use Rattle.link_model.specs.Members.{link_of}
use Rattle.link_model.specs.RegionValues.{area_of}
use Rattle.link_model.specs.Veneers.{needed_from, needed_in}
use Rattle.link_veneer.specs.Needing.{with_all}
use Rattle.link_veneer.proofs.PlanLemmas.{added_more}
use Rattle.link_veneer.proofs.planning.add_regions.Goals as goal

pub loop-k-preserved : goal.loop-k-preserved
loop-k-preserved c =
    let l = link_of c.args.linked.now in
    let k = c.loop-k.k in
    let rest = drop (k + 1) c.args.regions.now in
    let here : drop k c.args.regions.now ≡ c.index-regions-k.result ∷ rest = grind (arith, common_steps) in
    let of : ℕ → List AreaName → List Veneer = λ n names. flat_map (λ a. needed_in l n a (area_of l.objects a)) names in
    let next : suc k ≡ k + 1 = omega arith in
    let step : needed_from l k (drop k c.args.regions.now) ≡ of k c.index-regions-k.result ++ needed_from l (k + 1) rest =
    ap (needed_from l k) here ∙ ap (λ n. of k c.index-regions-k.result ++ needed_from l n rest) next in
    let added : c.add_region.new.needs.keys ≡ with_all c.loop-k.needs.keys (of k c.index-regions-k.result) =
    c.in_ok-add_region.ensures ∙ ap (λ n. with_all c.loop-k.needs.keys (of n c.as_slice.result.now)) c.in_ok-to_u32.ensures
    ∙ ap (λ names. with_all c.loop-k.needs.keys (of k names)) c.as_slice.ensures in
    added_more c.loop-k.needs.keys c.add_region.new.needs.keys _ (of k c.index-regions-k.result) (needed_from l (k + 1) rest) (needed_from l k (drop k c.args.regions.now)) step added c.loop-k.invariant
