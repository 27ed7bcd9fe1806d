-- What is made has a placement of 2^26 bytes at most.
use Rattle.std.proofs.Common.{◌≡◌, ℕ, ◌^◌, ◌≤◌, refl, ap, subst, List, Option, Result, Ok, Err}
use Rattle.std.specs.Prelude.{sum_by}
use Rattle.sdt_word.specs.declared.ranges.Range32.{Range32}
use Rattle.sdt_fault.specs.declared.refusal.Refusal.{Refusal}
use Rattle.chunk_file.specs.Reading.{◌>>=◌}
use Rattle.link_model.specs.declared.placing.Assigned.{Assigned}
use Rattle.link_model.specs.declared.placing.Placement.{Placement}
use Rattle.link_model.specs.declared.placing.Veneer.{Veneer}
use Rattle.link_model.specs.declared.selection.Linked.{Linked}
use Rattle.place_model.specs.declared.scatter.Kind.{Kind}
use Rattle.link_items.specs.LinkedItems.{contents_of, has_header}
use Rattle.link_assign.specs.Assigning.{assignment_of}
use Rattle.link_veneer.specs.Planning.{planned_veneers}
use Rattle.link_place.specs.Placed.{placed}
use Rattle.link_apply.specs.Applied.{applied}
use Rattle.armlink_core.specs.declared.making.PlacedImage.{PlacedImage}
use Rattle.armlink_core.specs.Linking.{made_at, made_with, made_of}
use Rattle.armlink_core.specs.Sizes.{region_size}
use Rattle.armlink_core.proofs.WithinLemmas.{is_small}

-- the step before what is made
came : {A B : Type 0} (step : Result A Refusal) (f : A → Result B Refusal) (y : B) → step >>= f ≡ Ok y → (x : A) × (step ≡ Ok x) × (f x ≡ Ok y)
came (Ok x) f y h = (x, refl, h)
came (Err e) f y h = absurd (cc)

abbrev with_bytes : Linked → Assigned → List Veneer → Placement → List (List ℕ) → Result PlacedImage Refusal
with_bytes l a vs p bytes = Ok (record { linked = l; assigned = a; veneers = vs; placement = p; bytes = bytes })

abbrev at_places : Linked → Assigned → List Veneer → Placement → Result PlacedImage Refusal
at_places l a vs p = made_at l a vs p

abbrev with_veneers : Kind → Option (List Range32) → Linked → Assigned → List Veneer → Result PlacedImage Refusal
with_veneers k ram l a vs = placed k ram (contents_of l.objects a.regions vs) >>= at_places l a vs

same_made : (l : Linked) (a : Assigned) (vs : List Veneer) (p : Placement) (bytes : List (List ℕ)) (m : PlacedImage) → with_bytes l a vs p bytes ≡ Ok m → p ≡ m.placement
same_made l a vs p bytes m h =
    let made : PlacedImage = record { linked = l; assigned = a; veneers = vs; placement = p; bytes = bytes } in
    let e : made ≡ m = cc in ap (λ (n : PlacedImage). n.placement) e

pub made_small : (k : Kind) (ram : Option (List Range32)) (l : Linked) (m : PlacedImage) → made_of k ram l ≡ Ok m → sum_by region_size m.placement.regions ≤ 2 ^ 26
made_small k ram l m h =
    let (a, ea, ha) = came (assignment_of k l.objects) (made_with k ram l) m h in
    let (vs, ev, hv) = came (planned_veneers l a (has_header k)) (with_veneers k ram l a) m ha in
    let (p, ep, hp) = came (placed k ram (contents_of l.objects a.regions vs)) (at_places l a vs) m hv in
    let (bytes, eb, hb) = came (applied l p) (with_bytes l a vs p) m hp in
    subst (λ (q : Placement). sum_by region_size q.regions ≤ 2 ^ 26) (same_made l a vs p bytes m hb) (is_small k ram (contents_of l.objects a.regions vs) p ep)
