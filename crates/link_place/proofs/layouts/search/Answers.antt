use Rattle.std.proofs.Common.{◌∙◌, sym, ap}
use Rattle.link_place.specs.declared.layouts.RegionLayout.{RegionLayout}
use Rattle.link_place.specs.declared.layouts.Layout.{Layout}
use Rattle.std.proofs.Common.{List}
use Rattle.link_place.specs.Layouts.{has_room, passes}
use Rattle.link_place.proofs.LayoutLemmas.{first_next}
use Rattle.link_place.proofs.layouts.search.Goals as goal

pub loop-words-preserved : goal.loop-words-preserved
loop-words-preserved c =
    let regions = c.as_slice.ensures ∙ ap (λ (l : Layout). l.regions) c.in_ok-layout.ensures in
    first_next (passes c.args.origin c.args.groups.now c.args.parts.now) c.loop-words.words c.args.most c.loop-words-test.true
    (ap (λ (ls : List RegionLayout). has_room ls c.loop-words.words) (sym regions) ∙ sym c.if-has_room.ensures) ∙ c.loop-words.invariant
