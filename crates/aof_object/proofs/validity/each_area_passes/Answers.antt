use Rattle.std.proofs.Common.{◌≡◌, ◌∙◌, sym, ap, length, take, ℕ, List, Option, true, subst, Bool}
use Rattle.std.specs.Prelude.{is_some}
use Rattle.aof_object.specs.Index.{number_in, or_number}
use Rattle.aof_object.specs.Names.{among}
use Rattle.aof_object.specs.Spelling.{area_names}
use Rattle.aof_object.specs.Tests.{area_ok, area_by}
use Rattle.aof_object.proofs.ValidLaw.{pass_more, taken_more}
use Rattle.aof_object.proofs.validity.each_area_passes.Goals as goal

pub loop-area-preserved : goal.loop-area-preserved
loop-area-preserved c =
    let xs = c.args.areas.now in
    let i = c.loop-area.area-index in
    let x = c.area-item.result in
    let repeated : c.is_some-repeated.result ≡ among x.name (area_names (take i xs)) =
    c.is_some-repeated.ensures ∙ ap (λ (o : Option ℕ). is_some o) (c.in_ok-note_name.ensures.found ∙ ap (number_in c.loop-area.taken) c.as_slice.ensures) ∙ c.loop-area.invariant.known x.name in
    let ok : area_by (among x.name (area_names (take i xs))) (length xs) c.args.symbols x ≡ true =
    subst (λ (b : Bool). area_by b (length xs) c.args.symbols x ≡ true) repeated (sym c.if-not-area_passes.ensures) in
    record {
      so_far = pass_more (area_ok (length xs) c.args.symbols) xs i x _ c.loop-area-test.true c.area-item.is ok c.loop-area.invariant.so_far;
      known = taken_more c.loop-area.taken c.note_name.new.index xs i x 0 c.loop-area-test.true c.area-item.is c.loop-area.invariant.known
          (λ q. c.in_ok-note_name.ensures.noted q ∙ ap (λ (n : List ℕ). or_number (number_in c.loop-area.taken q) n 0 q) c.as_slice.ensures);
    }
