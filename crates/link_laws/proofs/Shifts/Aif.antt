-- A relocatable AIF is one at every base that leaves room.
use Rattle.std.proofs.Common.{◌≡◌, ℕ, zero, suc, ◌+◌, ◌-◌, ◌%◌, ◌^◌, ◌≤◌, Bool, true, false, ◌==◌, min, max, List, [], ◌∷◌, map, refl, sym, ap, ◌∙◌, arith, eq-eqb, Option, Some, None}
use Rattle.std.specs.Prelude.{nat_lt, sum_by, slice_get, unwrap_or}
use Rattle.std.specs.Option.{option_map, option_or}
use Rattle.std.proofs.lemmas.Bool.{le-ltb}
use Rattle.std.proofs.lemmas.List.Sums.{sum_by-cons}
use Rattle.sdt_word.specs.declared.ranges.Range32.{Range32}
use Rattle.place_model.specs.declared.scatter.Kind.{Kind}
use Rattle.place_model.specs.declared.scatter.Kind.TheVariants as kind
use Rattle.place_model.specs.Assignment.{AreAssigned}
use Rattle.place_model.specs.Faults.{first_told, rootless, overfull, judged, Span, shared, overlap, copy_conflict, image_bytes, too_large, aif_too_large, as_overlap, as_conflict, execution_span, place_refusal}
use Rattle.place_model.specs.Items.{Item}
use Rattle.place_model.specs.Laws.{AreWhole}
use Rattle.place_model.specs.Plans.{Contents, Planned, length_of, zero_length_of, execution_size, Plan, regions_of, is_copied}
use Rattle.image_model.specs.AifFiles.{size_in, parts_size, zero_size, with_header, aif_plan}
use Rattle.image_model.specs.Regions.{Given, AreSized}
use Rattle.image_laws.specs.AifLaws.{IsAif}
use Rattle.image_laws.proofs.AifLemmas.{small}
use Rattle.image_laws.proofs.PlainLemmas.{r0, r1, r2, zero_0, zero_1}
use Rattle.link_laws.specs.AifJoins.{moved_region, moved_plan}
use Rattle.link_laws.proofs.Shifts.Plans.{length_moves, zero_length_moves, regions_move, plan_law}

-- ---- sizes

execution_moves : (by : ℕ) (r : Planned) → execution_size (moved_region by r) ≡ execution_size r
execution_moves by r = ap (λ n. n + zero_length_of (moved_region by r)) (length_moves by r) ∙ ap (λ n. length_of r + n) (zero_length_moves by r)

sum_moves : (by : ℕ) (rs : List Planned) → sum_by execution_size (map (moved_region by) rs) ≡ sum_by execution_size rs
sum_moves by [] = refl
sum_moves by (r ∷ rs) =
    let one = sum_by-cons execution_size (moved_region by r) (map (moved_region by) rs) in
    let two = sum_by-cons execution_size r rs in
    let rest = sum_moves by rs in
    let here = execution_moves by r in
    plain _ _ _ _ _ _ one two here rest
  where
    plain : (x y a b e f : ℕ) → x ≡ a + b → y ≡ e + f → a ≡ e → b ≡ f → x ≡ y
    plain x y a b e f one two three four_ = omega (arith, one, two, three, four_)

of_zero : {X : Type 0} (f : Plan → X) → ((by : ℕ) (p : Plan) → f (moved_plan by p) ≡ f p) → (base : ℕ) (c : Contents) → f (aif_plan base true c) ≡ f (aif_plan 0 true c)
of_zero f same base c = let own : base ≡ 0 + base = omega arith in ap (λ n. f (aif_plan n true c)) own ∙ ap f (plan_law.plan 0 base c) ∙ same base (aif_plan 0 true c)

bytes_at : (base : ℕ) (c : Contents) → image_bytes (aif_plan base true c) ≡ image_bytes (aif_plan 0 true c)
bytes_at base c = of_zero image_bytes (λ by p. ap (sum_by execution_size) (regions_move by p) ∙ sum_moves by (regions_of p)) base c

-- ---- refusals

fits : (name : List ℕ) (base size : ℕ) → base + size ≤ 2 ^ 32 → overfull (record { name = name; base = base; size = size; maximum = None }) ≡ None
fits name base size h =
    let one : nat_lt (2 ^ 32) base ≡ false = le-ltb (2 ^ 32) base (omega (arith, h)) in
    let two : nat_lt (2 ^ 32 - base) size ≡ false = le-ltb (2 ^ 32 - base) size (omega (arith, h)) in
    rw one (rw two refl)

apart : (s t : Span) → s.base + s.size ≤ t.base → shared s t ≡ None
apart s t h =
    let none : nat_lt (max s.base t.base) (min (s.base + s.size) (t.base + t.size)) ≡ false = le-ltb (max s.base t.base) (min (s.base + s.size) (t.base + t.size)) (omega (arith, h)) in
    rw none refl

both_none : {X : Type 0} (o p : Option X) → o ≡ None → p ≡ None → option_or o p ≡ None
both_none o p e f = ap (λ z. option_or z p) e ∙ f

root_stays : (r : Planned) → r.load ≡ r.base → is_copied r ≡ false
root_stays r e = let t : (r.load == r.base) ≡ true = eq-eqb r.load r.base e in rw t refl

module _ (base : ℕ) (c : Contents) (items : List Item) (g : Given) (ram : Option (List Range32)) (a : IsAif base true c items g ram) (to : ℕ) (whole : to % 4 ≡ 0)
    (room : to + parts_size (aif_plan to true c) + zero_size (aif_plan to true c) ≤ 2 ^ 32) where
  abbrev k : Kind
  k = kind.Aif to true

  abbrev p : Plan
  p = aif_plan to true c

  assigned_there : AreAssigned k items c.areas
  assigned_there = record { all = a.assigned.all; each = a.assigned.each }

  abbrev ro : Planned
  ro = r0 k c to items assigned_there.each

  abbrev rw_ : Planned
  rw_ = r1 k c to items assigned_there.each

  abbrev zi : Planned
  zi = r2 k c to items assigned_there.each

  no_zero_0 : zero_length_of ro ≡ 0
  no_zero_0 = zero_0 k c to items assigned_there.each

  no_zero_1 : zero_length_of rw_ ≡ 0
  no_zero_1 = zero_1 k c to items assigned_there.each

  is_small : image_bytes p ≤ 2 ^ 24
  is_small = let most = small base true c items g ram a in let same = bytes_at to c ∙ sym (bytes_at base c) in omega (arith, most, same)

  pub accepted_there : place_refusal k None p ≡ None
  accepted_there =
      let z0 = no_zero_0 in
      let z1 = no_zero_1 in
      let end = room in
      let roots : (to == to) ≡ true = eq-eqb to to refl in
      let f0 = fits ro.name ro.base (execution_size ro) (omega (arith, z0, z1, end)) in
      let f1 = fits rw_.name rw_.base (execution_size rw_) (omega (arith, z0, z1, end)) in
      let f2 = fits zi.name zi.base (execution_size zi) (omega (arith, z0, z1, end)) in
      let s01 = apart (execution_span ro) (execution_span rw_) (omega arith) in
      let s02 = apart (execution_span ro) (execution_span zi) (omega arith) in
      let s12 = apart (execution_span rw_) (execution_span zi) (omega arith) in
      let c0 = root_stays ro refl in
      let c1 = root_stays rw_ (omega (arith, z0)) in
      let c2 = root_stays zi (omega (arith, z0, z1)) in
      let most = is_small in
      let first : rootless (regions_of p) ≡ None = rw roots refl in
      let second : first_told overfull (judged k p) ≡ None = rw f0 (rw f1 (rw f2 refl)) in
      let third : overlap p ≡ None = rw s01 (rw s02 (rw s12 refl)) in
      let fourth : copy_conflict p ≡ None = rw c0 (rw c1 (rw c2 refl)) in
      let less_26 : nat_lt (2 ^ 26) (image_bytes p) ≡ false = le-ltb (2 ^ 26) (image_bytes p) (omega (arith, most)) in
      let less_24 : nat_lt (2 ^ 24) (image_bytes p) ≡ false = le-ltb (2 ^ 24) (image_bytes p) most in
      let fifth : too_large p ≡ None = rw less_26 refl in
      let sixth : aif_too_large k p ≡ None = rw less_24 refl in
      both_none (rootless (regions_of p)) _ first
      (both_none (first_told overfull (judged k p)) _ second
      (both_none (option_map as_overlap (overlap p)) _ (ap (option_map as_overlap) third)
      (both_none (option_map as_conflict (copy_conflict p)) _ (ap (option_map as_conflict) fourth)
      (both_none (too_large p) _ fifth (both_none (aif_too_large k p) None sixth refl)))))

  whole_there : AreWhole k c
  whole_there = record { loads = (whole, tt); regions = (whole, (refl, (refl, tt))); items = a.whole.items }

  -- what is called stands as far behind the base
  pub aif_there : (h : Given) → ((moves : Bool) → AreSized (with_header moves p to h) p) → h.call + base ≡ g.call + to → parts_size p ≡ parts_size (aif_plan base true c) → zero_size p ≡ zero_size (aif_plan base true c)
      → base % 4 ≡ 0 → IsAif to true c items h None
  aif_there h sized calls parts cleared own =
      let call_4 = a.call_whole in
      let call_low = a.call_low in
      let call_high = a.call_high in
      record {
        whole = whole_there;
        assigned = assigned_there;
        accepted = accepted_there;
        sized = sized;
        no_veneers = a.no_veneers;
        call_whole = omega (arith, calls, call_4, whole, own);
        call_low = omega (arith, calls, call_low);
        call_high = omega (arith, calls, call_high, parts, cleared);
      }

-- ---- the sizes of the parts

size_moves : (by : ℕ) (rs : List Planned) (n : ℕ) (size : Planned → ℕ) → ((r : Planned) → size (moved_region by r) ≡ size r) → option_map size (slice_get (map (moved_region by) rs) n) ≡ option_map size (slice_get rs n)
size_moves by [] n size same = refl
size_moves by (r ∷ rs) zero size same = ap Some (same r)
size_moves by (r ∷ rs) (suc n) size same = size_moves by rs n size same

pub parts_at : (base : ℕ) (c : Contents) → parts_size (aif_plan base true c) ≡ parts_size (aif_plan 0 true c)
parts_at base c = of_zero parts_size (λ by p.
    ap (λ (rs : List Planned). unwrap_or (option_map length_of (slice_get rs 0)) 0 + unwrap_or (option_map length_of (slice_get rs 1)) 0) (regions_move by p)
    ∙ ap (λ (o : Option ℕ). unwrap_or o 0 + unwrap_or (option_map length_of (slice_get (map (moved_region by) (regions_of p)) 1)) 0) (size_moves by (regions_of p) 0 length_of (length_moves by))
    ∙ ap (λ (o : Option ℕ). unwrap_or (option_map length_of (slice_get (regions_of p) 0)) 0 + unwrap_or o 0) (size_moves by (regions_of p) 1 length_of (length_moves by))) base c

pub zero_at : (base : ℕ) (c : Contents) → zero_size (aif_plan base true c) ≡ zero_size (aif_plan 0 true c)
zero_at base c = of_zero zero_size (λ by p.
    ap (λ (rs : List Planned). unwrap_or (option_map execution_size (slice_get rs 2)) 0) (regions_move by p)
    ∙ ap (λ (o : Option ℕ). unwrap_or o 0) (size_moves by (regions_of p) 2 execution_size (execution_moves by))) base c

pub first_at : (base : ℕ) (c : Contents) (n : ℕ) → size_in length_of (aif_plan base true c) n ≡ size_in length_of (aif_plan 0 true c) n
first_at base c n = of_zero (λ p. size_in length_of p n) (λ by p.
    ap (λ (rs : List Planned). unwrap_or (option_map length_of (slice_get rs n)) 0) (regions_move by p) ∙ ap (λ (o : Option ℕ). unwrap_or o 0) (size_moves by (regions_of p) n length_of (length_moves by))) base c
