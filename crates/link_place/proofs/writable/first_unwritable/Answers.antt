use Rattle.std.proofs.Common.{◌+◌, ◌∙◌, sym, drop}
use Rattle.link_place.specs.Writable.{unwritable_by, first_unwritable_by}
use Rattle.link_place.proofs.PartLemmas.{drop_item}
use Rattle.link_place.proofs.CheckLemmas.{none_left}
use Rattle.link_place.proofs.PlacingLemmas.{has_more, here, later}
use Rattle.link_place.proofs.writable.first_unwritable.Goals as goal

pub returns-in-Some : goal.returns-in-Some
returns-in-Some c =
    let w = c.args.words in
    let o = c.args.origin in
    let i = c.loop-i.i in
    let ps = drop (i + 1) c.args.parts.now in
    let ls = drop (i + 1) c.args.regions.now in
    let p = c.index-parts-i.result in
    let l = c.index-regions-i.result in
    let parts = drop_item c.args.parts.now i p c.loop-i-test.true c.index-parts-i.is in
    let more = has_more w o i p ps c.args.regions.now (rw parts at c.loop-i.invariant.own) in
    let regions = drop_item c.args.regions.now i l more c.index-regions-i.is in
    here c.in-Some.refusal (unwritable_by c.args.ram.now w o p l) (first_unwritable_by c.args.ram.now w o ps ls) _ (rw (parts, regions) at c.loop-i.invariant.so_far) (sym c.in-Some.is ∙ c.in_ok-refusal.ensures)

pub loop-i-preserved : goal.loop-i-preserved
loop-i-preserved c =
    let w = c.args.words in
    let o = c.args.origin in
    let i = c.loop-i.i in
    let ps = drop (i + 1) c.args.parts.now in
    let ls = drop (i + 1) c.args.regions.now in
    let p = c.index-parts-i.result in
    let l = c.index-regions-i.result in
    let parts = drop_item c.args.parts.now i p c.loop-i-test.true c.index-parts-i.is in
    let more = has_more w o i p ps c.args.regions.now (rw parts at c.loop-i.invariant.own) in
    let regions = drop_item c.args.regions.now i l more c.index-regions-i.is in
    let none = none_left c.in_ok-refusal.field-0 c.in_default.not-Some in
    record {
      so_far = later (unwritable_by c.args.ram.now w o p l) (first_unwritable_by c.args.ram.now w o ps ls) _ (rw (parts, regions) at c.loop-i.invariant.so_far) (sym none ∙ c.in_ok-refusal.ensures);
      low = (rw regions at c.loop-i.invariant.low).1;
      own = (rw (parts, regions) at c.loop-i.invariant.own).1;
    }
