use Rattle.std.proofs.Common.{◌+◌, arith, drop, ap}
use Rattle.std.proofs.lemmas.List.Sums.{sum_by-take-drop, sum_by-drop_more}
use Rattle.link_place.specs.declared.parts.Group.{Group}
use Rattle.link_place.specs.Parts.{piece_count}
use Rattle.link_place.proofs.PartLemmas.{drop_item}
use Rattle.link_place.proofs.LayoutLemmas.{regions_next, loads_next}
use Rattle.link_place.proofs.layouts.lay_out.Goals as goal

pub loop-i-preserved : goal.loop-i-preserved
loop-i-preserved c =
    let w = c.args.words in
    let o = c.args.origin in
    let i = c.loop-i.i in
    let groups = c.args.groups.now in
    let g = c.index-groups-i.result in
    let later = drop (i + 1) groups in
    let ps = c.loop-i.rest.now in
    let next = drop_item groups i g c.loop-i-test.true c.index-groups-i.is in
    let own = c.split_at.ensures.front in
    let rest = c.split_at.ensures.back in
    let known = c.loop-i.invariant in
    let size = c.in_ok-size.ensures.size in
    let regions = c.in_ok-size.ensures.regions in
    let parts = sum_by-take-drop piece_count ps g.count in
    let room = known.room in
    let counts = sum_by-drop_more (λ (h : Group). h.count) groups i g c.loop-i-test.true in
    let same = ap (λ (h : Group). h.count) c.index-groups-i.is in
    record {
      regions = rw rest (regions_next w o i g later ps c.loop-i.regions.items _ _ (rw next at known.regions) (rw own at regions));
      loads = rw rest (loads_next w o i c.in_ok-size.size g later ps c.loop-i.loads.items _ _ (rw next at known.loads) (rw own at size) c.in_ok-push_load.ensures);
      counts = omega (arith, counts, same, c.loop-i.invariant.counts, c.split_at.ensures.back_len);
      room = rw rest (omega arith);
    }
