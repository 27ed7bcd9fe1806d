-- The sizes of an image that is linked, from what is told of its plan.
use Rattle.std.proofs.Common.{◌≡◌, ℕ, suc, ◌+◌, ◌^◌, ◌≤◌, List, [], ◌∷◌, ◌++◌, map, sum_by, Bool, true, false, cond, nat_lt, Option, Some, None, Result, Ok, Err, refl, subst, arith}
use Rattle.std.proofs.lemmas.Bool.{ltb-false}
use Rattle.std.proofs.lemmas.List.Sums.{sum_by-append, sum_by-cons}
use Rattle.std.specs.List.{AllByRecursion}
use Rattle.std.specs.Option.{option_map, option_or}
use Rattle.sdt_word.specs.declared.ranges.Range32.{Range32}
use Rattle.sdt_fault.specs.declared.refusal.Refusal.{Refusal}
use Rattle.sdt_fault.specs.declared.refusal.Refusal.TheVariants.{TooLarge}
use Rattle.sdt_fault.specs.declared.kinds.Quantity.TheVariants.{ImageBytes}
use Rattle.chunk_file.specs.Reading.{◌>>=◌}
use Rattle.aof_object.specs.declared.records.Object.{Object}
use Rattle.link_model.specs.declared.images.Image.{Image}
use Rattle.link_model.specs.declared.images.ImageKind.TheVariants as form
use Rattle.link_model.specs.declared.placing.Placement.{Placement}
use Rattle.link_model.specs.declared.placing.Region.{Region}
use Rattle.link_model.specs.declared.selection.Linked.{Linked}
use Rattle.link_model.specs.declared.selection.Named.{Named}
use Rattle.place_model.specs.declared.scatter.Kind.{Kind}
use Rattle.place_model.specs.declared.scatter.Kind.TheVariants as kind
use Rattle.place_model.specs.declared.scatter.Scatter.{Scatter}
use Rattle.place_model.specs.Plans.{Contents, Plan, Planned, execution_size, plan_of, regions_of}
use Rattle.place_model.specs.Faults as faults
use Rattle.link_items.specs.LinkedItems.{contents_of, has_header}
use Rattle.link_assign.specs.Assigning.{assignment_of}
use Rattle.link_select.specs.Selection.{selection_of}
use Rattle.link_veneer.specs.Planning.{planned_veneers}
use Rattle.link_place.specs.Placed.{placed, placed_region, placed_regions, placement_of, told}
use Rattle.link_apply.specs.Applied.{applied}
use Rattle.scatter_text.specs.Reading.{scatter_of}
use Rattle.armlink_core.specs.declared.making.PlacedImage.{PlacedImage}
use Rattle.armlink_core.specs.Linking.{made_at, made_of, made_with, symbols_of}
use Rattle.armlink_core.specs.Images.{described, form_of, image_made, image_of}
use Rattle.armlink_core.specs.Moves.{moves_in}
use Rattle.armlink_core.specs.Laws.{IsSized, LinkedSizes, ScatterSizes}

ok_same : {A : Type 0} (a b : A) → ◌≡◌ {A = Result A Refusal} (Ok a) (Ok b) → a ≡ b
ok_same a b h = cc

steps_ok : {A B : Type 0} (x : Result A Refusal) (f : A → Result B Refusal) (b : B) → (x >>= f) ≡ Ok b → (a : A) × (x ≡ Ok a) × (f a ≡ Ok b)
steps_ok (Ok a) f b h = (a, refl, h)
steps_ok {B = B} (Err r) f b h = absurd (let bad : ◌≡◌ {A = Result B Refusal} (Err r) (Ok b) = h in cc)

-- ---- a plan of which nothing is told

fifth_none : (a b c d e rest : Option Refusal) → option_or a (option_or b (option_or c (option_or d (option_or e rest)))) ≡ None → e ≡ None
fifth_none (Some r) b c d e rest h = absurd (let bad : Some r ≡ None = h in cc)
fifth_none None (Some r) c d e rest h = absurd (let bad : Some r ≡ None = h in cc)
fifth_none None None (Some r) d e rest h = absurd (let bad : Some r ≡ None = h in cc)
fifth_none None None None (Some r) e rest h = absurd (let bad : Some r ≡ None = h in cc)
fifth_none None None None None (Some r) rest h = absurd (let bad : Some r ≡ None = h in cc)
fifth_none None None None None None rest h = refl

not_large : (p : Plan) → faults.too_large p ≡ None → faults.image_bytes p ≤ 2 ^ 26
not_large p h = by_test (nat_lt (2 ^ 26) (faults.image_bytes p)) refl h where
  by_test : (b : Bool) → nat_lt (2 ^ 26) (faults.image_bytes p) ≡ b → cond b (Some (TooLarge ImageBytes (2 ^ 26))) None ≡ None → faults.image_bytes p ≤ 2 ^ 26
  by_test true e k = absurd (let bad : Some (TooLarge ImageBytes (2 ^ 26)) ≡ None = k in cc)
  by_test false e k = ltb-false (2 ^ 26) (faults.image_bytes p) e

told_none : (o : Option Refusal) (plan : Plan) (p : Placement) → told o plan ≡ Ok p → (o ≡ None) × (placement_of plan ≡ p)
told_none None plan p h = (refl, ok_same (placement_of plan) p h)
told_none (Some r) plan p h = absurd (let bad : ◌≡◌ {A = Result Placement Refusal} (Err r) (Ok p) = h in cc)

-- ---- its regions

abbrev IsSmall : Region → Type 0
IsSmall r = r.length + r.zero ≤ 2 ^ 26

small_load : (number : ℕ) (rs : List Planned) (rest : List Region) → sum_by execution_size rs ≤ 2 ^ 26 → AllByRecursion IsSmall rest
    → AllByRecursion IsSmall (map (placed_region number) rs ++ rest)
small_load number [] rest h small = small
small_load number (r ∷ rs) rest h small =
    let both : sum_by execution_size (r ∷ rs) ≡ execution_size r + sum_by execution_size rs = sum_by-cons execution_size r rs in
    let one : execution_size r ≤ 2 ^ 26 = omega (arith, both, h) in
    let others : sum_by execution_size rs ≤ 2 ^ 26 = omega (arith, both, h) in
    (one, small_load number rs rest others small)

small_regions : (number : ℕ) (p : Plan) → sum_by execution_size (regions_of p) ≤ 2 ^ 26 → AllByRecursion IsSmall (placed_regions number p)
small_regions number [] h = tt
small_regions number (l ∷ loads) h =
    let both : sum_by execution_size (l.regions ++ regions_of loads) ≡ sum_by execution_size l.regions + sum_by execution_size (regions_of loads) =
    sum_by-append execution_size l.regions (regions_of loads) in
    let own : sum_by execution_size l.regions ≤ 2 ^ 26 = omega (arith, both, h) in
    let others : sum_by execution_size (regions_of loads) ≤ 2 ^ 26 = omega (arith, both, h) in
    small_load number l.regions (placed_regions (suc number) loads) own (small_regions (suc number) loads others)

placed_small : (k : Kind) (ram : Option (List Range32)) (c : Contents) (p : Placement) → placed k ram c ≡ Ok p → AllByRecursion IsSmall p.regions
placed_small k ram c p h =
    let plan : Plan = plan_of k c in
    let both = told_none (faults.place_refusal k ram plan) plan p h in
    let none = fifth_none (faults.rootless (regions_of plan)) (faults.first_told faults.overfull (faults.judged k plan)) (option_map faults.as_overlap (faults.overlap plan)) (option_map faults.as_conflict (faults.copy_conflict plan)) (faults.too_large plan) (option_or (faults.aif_too_large k plan) (faults.not_writable ram plan)) both.0 in
    subst (λ (q : Placement). AllByRecursion IsSmall q.regions) both.1 (small_regions 0 plan (not_large plan none))

-- ---- an image

pub made_small : (k : Kind) (ram : Option (List Range32)) (l : Linked) (m : PlacedImage) → made_of k ram l ≡ Ok m → AllByRecursion IsSmall m.placement.regions
made_small k ram l m h =
    let a = steps_ok (assignment_of k l.objects) (made_with k ram l) m h in
    let vs = steps_ok (planned_veneers l a.0 (has_header k)) (λ vs. placed k ram (contents_of l.objects a.0.regions vs) >>= made_at l a.0 vs) m a.2 in
    let p = steps_ok (placed k ram (contents_of l.objects a.0.regions vs.0)) (made_at l a.0 vs.0) m vs.2 in
    let bytes = steps_ok (applied l p.0) (λ bytes. Ok (record { linked = l; assigned = a.0; veneers = vs.0; placement = p.0; bytes = bytes })) m p.2 in
    let one : PlacedImage = record { linked = l; assigned = a.0; veneers = vs.0; placement = p.0; bytes = bytes.0 } in
    subst (λ (x : PlacedImage). AllByRecursion IsSmall x.placement.regions) (ok_same one m bytes.2) (placed_small k ram (contents_of l.objects a.0.regions vs.0) p.0 p.1)

pub linked_sizes : LinkedSizes
linked_sizes k ram os i h =
    let l = steps_ok (selection_of (Some (symbols_of k)) os) (λ l. made_of k ram l >>= image_made k) i h in
    let m = steps_ok (made_of k ram l.0) (image_made k) i l.2 in
    let moves = steps_ok (moves_in k m.0.linked m.0.placement) (λ moves. Ok (image_of k m.0 moves)) i m.2 in
    let one : Image = image_of k m.0 moves.0 in
    let sized : IsSized (form_of k) one = record { form = refl; regions = made_small k ram l.0 m.0 m.1 } in
    subst (IsSized (form_of k)) (ok_same one i moves.2) sized

described_sizes : (d : Result Scatter Refusal) (ram : Option (List Range32)) (os : List (Named Object)) (i : Image) → described d ram os ≡ Ok i → IsSized form.Scatter i
described_sizes (Ok s) ram os i h = linked_sizes (kind.Scatter s) ram os i h
described_sizes (Err r) ram os i h =
    let l = steps_ok (selection_of None os) (λ l. Err r) i h in
    absurd (let bad : ◌≡◌ {A = Result Image Refusal} (Err r) (Ok i) = l.2 in cc)

pub scatter_sizes : ScatterSizes
scatter_sizes text ram os i h = described_sizes (scatter_of text) ram os i h
