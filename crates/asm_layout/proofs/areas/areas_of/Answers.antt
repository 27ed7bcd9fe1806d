use Rattle.std.proofs.Common.{◌≡◌, ◌∷◌, ◌∙◌, List, [], map, refl, sym, ap}
use Rattle.std.proofs.lemmas.Iterator.{YieldsList-from_zip}
use Rattle.std.proofs.lemmas.Iterator.Adapters.{YieldsList-from_vec}
use Rattle.std.proofs.lemmas.Iterator.Consumers.{YieldsList-end}
use Rattle.std.proofs.lemmas.Slice.Zip.{all_zipped_more}
use Rattle.asm_checks.specs.declared.starts.AreaStart.{AreaStart}
use Rattle.asm_offsets.specs.declared.extents.LaidPools.{LaidPools}
use Rattle.asm_layout.specs.Areas.{IsMade}
use Rattle.asm_layout.proofs.AreaLemmas.{areas_are}
use Rattle.asm_layout.proofs.areas.areas_of.Goals as goal

pub areas-preserved : goal.areas-preserved
areas-preserved c =
    rw c.in_ok-push.ensures.items
    (all_zipped_more IsMade c.areas.yielded c.areas.areas.items (c.in-Some.start, c.in-Some.laid) _ c.areas.invariant
    (record { name = refl; attributes = refl; size = refl; pools = refl }))

same_pairs : (ps : List (AreaStart × LaidPools)) → map (λ (p : AreaStart × LaidPools). (p.0, p.1)) ps ≡ ps
same_pairs [] = refl
same_pairs (p ∷ ps) = ap (λ (l : List (AreaStart × LaidPools)). p ∷ l) (same_pairs ps)

pub returns : goal.returns
returns c = λ all laid begun.
    let t = YieldsList-end {s = c.into_iter-start-iterator.result} (YieldsList-from_zip {s = c.into_iter-start-iterator.result}
    (YieldsList-from_vec c.args.starts.items (cc) (cc)) (YieldsList-from_vec c.args.pools.items (cc) (cc))) c.areas.yielded c.areas.start-iterator
    c.areas.yielded_by c.next.result c.next.new.self c.in-None.is c.next.ensures.steps in
    areas_are all c.args.starts.items c.args.pools.items c.areas.yielded c.areas.areas.items (sym (same_pairs c.areas.yielded) ∙ t.0) c.areas.invariant laid
    begun
