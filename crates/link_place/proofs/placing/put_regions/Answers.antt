use Rattle.std.proofs.Common.{◌+◌, drop}
use Rattle.link_place.specs.Placings.{area_at, veneer_at}
use Rattle.link_place.proofs.PartLemmas.{drop_item}
use Rattle.link_place.proofs.PlacingLemmas.{seats_step, boot_step, has_more}
use Rattle.link_place.proofs.placing.put_regions.Goals as goal

pub loop-i-preserved : goal.loop-i-preserved
loop-i-preserved c =
    let w = c.args.words in
    let o = c.args.origin in
    let i = c.loop-i.i in
    let known = c.loop-i.invariant in
    let p = c.index-parts-i.result in
    let l = c.index-regions-i.result in
    let ps = drop (i + 1) c.args.parts.now in
    let ls = drop (i + 1) c.args.regions.now in
    let parts = drop_item c.args.parts.now i p c.loop-i-test.true c.index-parts-i.is in
    let more = has_more w o i p ps c.args.regions.now (rw parts at known.own) in
    let regions = drop_item c.args.regions.now i l more c.index-regions-i.is in
    let stood = c.in_ok-put_region.ensures in
    record {
      areas = seats_step area_at w o i p ps l ls c.loop-i.out.areas.items _ _ (rw (parts, regions) at known.areas) stood.areas;
      veneers = seats_step veneer_at w o i p ps l ls c.loop-i.out.veneers.items _ _ (rw (parts, regions) at known.veneers) stood.veneers;
      boot = boot_step w o i p ps l ls c.loop-i.out.boot _ _ (rw (parts, regions) at known.boot) stood.boot;
      low = (rw regions at known.low).1;
      own = (rw (parts, regions) at known.own).1;
    }
