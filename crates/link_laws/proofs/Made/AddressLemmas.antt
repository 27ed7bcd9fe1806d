-- The placement of a plan has the plan's addresses: what is found among its areas and veneers is found in the plan.
use Rattle.std.proofs.Common.{◌≡◌, ℕ, zero, suc, ◌+◌, ◌<◌, Bool, true, false, cond, ◌&&◌, ◌==◌, List, [], ◌∷◌, ◌++◌, map, refl, sym, ap, ◌∙◌, arith, eq-eqb, eqb-true, Option, Some, None}
use Rattle.std.specs.Prelude.{nat_lt, slice_get, unwrap_or}
use Rattle.std.specs.List.{filter, flat_map, find, list_any}
use Rattle.std.specs.Option.{option_map, option_or}
use Rattle.std.proofs.lemmas.Bool.{ne_eqb}
use Rattle.std.proofs.lemmas.List.Folds.{find-append}
use Rattle.base_lemmas.proofs.BaseLemmas.{both_true, neither}
use Rattle.patch_model.specs.Fields.{Home}
use Rattle.place_model.specs.declared.scatter.Kind.{Kind}
use Rattle.place_model.specs.Plans.{Contents, origin_of, Planned, Plan, regions_of, table_words, plan_of, stood_in, address_of, boot_address}
use Rattle.place_model.specs.Plans as plan
use Rattle.place_model.specs.Things.{Thing, Header, AnArea, AVeneer, Startup, Stood}
use Rattle.link_model.specs.declared.placing.PlacedArea.{PlacedArea}
use Rattle.link_model.specs.declared.placing.PlacedVeneer.{PlacedVeneer}
use Rattle.link_model.specs.declared.placing.Region.{Region}
use Rattle.link_values.specs.Placed.{is_area, base_in}
use Rattle.link_place.specs.Placed.{placed_region, placed_regions, area_of, veneer_of, areas_of, veneers_of, placement_of}
use Rattle.link_place.specs.declared.layouts.RegionLayout.{RegionLayout}
use Rattle.link_place.specs.declared.parts.Part.{Part}
use Rattle.link_place.specs.Parts.{parts_of}
use Rattle.link_place.proofs.PlanLemmas.{AreOf, laid_plan}
use Rattle.link_place.proofs.AnswerLemmas.{are_planned}
use Rattle.link_apply.specs.Placed.{leads_to, veneers_at}
use Rattle.link_apply.specs.RegionBytes.{is_copied}
use Rattle.link_laws.specs.Placing.{bases_of, has_area, is_veneer}
use Rattle.link_laws.specs.Joins.{PlacesOf}
use Rattle.link_model.specs.RegionValues.{reduced_by}

-- ---- the first that passes, in lists one behind the other

map_or : {X A : Type 0} (u : X → A) (o p : Option X) → option_map u (option_or o p) ≡ option_or (option_map u o) (option_map u p)
map_or u None p = refl
map_or u (Some x) p = refl

mapped_twice : {X Y Z : Type 0} (g : Y → Z) (f : X → Y) (o : Option X) → option_map g (option_map f o) ≡ option_map (λ x. g (f x)) o
mapped_twice g f None = refl
mapped_twice g f (Some x) = refl

mapped_itself : {X : Type 0} (o : Option X) → option_map (λ x. x) o ≡ o
mapped_itself None = refl
mapped_itself (Some x) = refl

find_both : {X A : Type 0} (u : X → A) (test : X → Bool) (xs ys : List X) → option_map u (find test (xs ++ ys)) ≡ option_or (option_map u (find test xs)) (option_map u (find test ys))
find_both u test xs ys = ap (option_map u) (find-append test xs ys) ∙ map_or u (find test xs) (find test ys)

-- where each item gives the same of two lists
found_flat : {X Y Z A : Type 0} (u : Y → A) (v : Z → A) (t : Y → Bool) (s : Z → Bool) (g : X → List Y) (f : X → List Z)
    → ((x : X) → option_map u (find t (g x)) ≡ option_map v (find s (f x)))
    → (xs : List X) → option_map u (find t (flat_map g xs)) ≡ option_map v (find s (flat_map f xs))
found_flat u v t s g f same [] = refl
found_flat u v t s g f same (x ∷ xs) =
    let here = same x in
    let rest = found_flat u v t s g f same xs in
    let one = find_both u t (g x) (flat_map g xs) in
    let two = find_both v s (f x) (flat_map f xs) in
    cc

-- where each gives as the item itself does
found_each : {Y Z A : Type 0} (u : Y → A) (v : Z → A) (t : Y → Bool) (s : Z → Bool) (g : Z → List Y)
    → ((z : Z) → option_map u (find t (g z)) ≡ option_map v (cond (s z) (Some z) None))
    → (zs : List Z) → option_map u (find t (flat_map g zs)) ≡ option_map v (find s zs)
found_each u v t s g same [] = refl
found_each u v t s g same (z ∷ zs) =
    let here = same z in
    let rest = found_each u v t s g same zs in
    let one = find_both u t (g z) (flat_map g zs) in
    let two = find_both v s (z ∷ []) zs in
    cc

-- where none gives any
found_nowhere : {X Y : Type 0} (t : Y → Bool) (g : X → List Y) → ((x : X) → find t (g x) ≡ None) → (xs : List X) → find t (flat_map g xs) ≡ None
found_nowhere t g none [] = refl
found_nowhere t g none (x ∷ xs) =
    let here = none x in
    let rest = found_nowhere t g none xs in
    let split = find-append t (g x) (flat_map g xs) in
    cc

none_any : {X : Type 0} (test : X → Bool) (xs : List X) → list_any test xs ≡ false → find test xs ≡ None
none_any test [] h = refl
none_any test (x ∷ xs) h = let (here, later) = neither (test x) (list_any test xs) h in rw here (none_any test xs later)

-- ---- areas

-- the placed area of a thing
abbrev pub placed_as : ℕ → ℕ → ℕ → ℕ → PlacedArea
placed_as object area region address = record { area = record { object = object; area = area }; region = region; address = address }

abbrev named : ℕ → ℕ → Stood → Bool
named object area s = plan.is_area object area s.thing

area_of_thing : (object area n : ℕ) (s : Stood)
    → option_map (λ a. a) (find (is_area object area) (area_of n s.thing s.address)) ≡ option_map (λ z. placed_as object area n z.address) (cond (named object area s) (Some s) None)
area_of_thing object area n s = go s.thing
  where
    go : (t : Thing) → option_map (λ a. a) (find (is_area object area) (area_of n t s.address)) ≡ option_map (λ z. placed_as object area n z.address) (cond (plan.is_area object area t) (Some s) None)
    go Header = refl
    go (AVeneer target thumb) = refl
    go (Startup words) = refl
    go (AnArea i) = by (i.object == object && i.area == area) refl
      where
        by : (b : Bool) → (i.object == object && i.area == area) ≡ b
            → option_map (λ a. a) (cond b (Some (placed_as i.object i.area n s.address)) None) ≡ option_map (λ z. placed_as object area n z.address) (cond b (Some s) None)
        by false e = refl
        by true e =
            let (first, second) = both_true (i.object == object) (i.area == area) e in
            let own : i.object ≡ object = eqb-true i.object object first in
            let number : i.area ≡ area = eqb-true i.area area second in
            cc

area_in_region : (object area : ℕ) (r : Planned) → find (is_area object area) (areas_of r) ≡ option_map (λ z. placed_as object area r.number z.address) (find (named object area) (stood_in r))
area_in_region object area r =
    sym (mapped_itself (find (is_area object area) (areas_of r)))
    ∙ found_each (λ a. a) (λ z. placed_as object area r.number z.address) (is_area object area) (named object area) (λ s. area_of r.number s.thing s.address) (area_of_thing object area r.number) (stood_in r)

-- in the region that has it
pub area_found : (object area : ℕ) (rs : List Planned) (r : Planned) (s : Stood) → find (has_area object area) rs ≡ Some r → find (λ z. plan.is_area object area z.thing) (stood_in r) ≡ Some s
    → find (is_area object area) (flat_map areas_of rs) ≡ Some (placed_as object area r.number s.address)
area_found object area [] r s h there = absurd cc
area_found object area (x ∷ rs) r s h there = go (list_any (named object area) (stood_in x)) refl h (area_found object area rs r s)
  where
    go : (b : Bool) → list_any (named object area) (stood_in x) ≡ b → cond b (Some x) (find (has_area object area) rs) ≡ Some r
        → (find (has_area object area) rs ≡ Some r → find (λ z. plan.is_area object area z.thing) (stood_in r) ≡ Some s → find (is_area object area) (flat_map areas_of rs) ≡ Some (placed_as object area r.number s.address))
        → find (is_area object area) (areas_of x ++ flat_map areas_of rs) ≡ Some (placed_as object area r.number s.address)
    go true e found rest =
        let same : x ≡ r = cc in
        let here : find (is_area object area) (areas_of r) ≡ Some (placed_as object area r.number s.address) =
        area_in_region object area r ∙ ap (option_map (λ z. placed_as object area r.number z.address)) there in
        let own : find (is_area object area) (areas_of x) ≡ Some (placed_as object area r.number s.address) = ap (λ q. find (is_area object area) (areas_of q)) same ∙ here in
        find-append (is_area object area) (areas_of x) (flat_map areas_of rs) ∙ ap (λ o. option_or o (find (is_area object area) (flat_map areas_of rs))) own
    go false e found rest =
        let none : find (is_area object area) (areas_of x) ≡ None =
        area_in_region object area x ∙ ap (option_map (λ z. placed_as object area x.number z.address)) (none_any (named object area) (stood_in x) e) in
        find-append (is_area object area) (areas_of x) (flat_map areas_of rs) ∙ ap (λ o. option_or o (find (is_area object area) (flat_map areas_of rs))) none ∙ rest found there

same_base : (q : Plan) (object area : ℕ) → base_in (placement_of q) object area ≡ bases_of q object area
same_base q object area =
    ap (λ o. unwrap_or o 0)
    (sym (mapped_twice (reduced_by (boot_address q)) (λ (a : PlacedArea). a.address) (find (is_area object area) (placement_of q).areas))
    ∙ ap (option_map (reduced_by (boot_address q)))
    (found_flat (λ (a : PlacedArea). a.address) (λ (s : Stood). s.address) (is_area object area) (λ s. plan.is_area object area s.thing) areas_of stood_in
    (λ r. ap (option_map (λ (a : PlacedArea). a.address)) (area_in_region object area r) ∙ mapped_twice (λ (a : PlacedArea). a.address) (λ z. placed_as object area r.number z.address) (find (named object area) (stood_in r)))
    (regions_of q)))

-- ---- rows

rows_same : {A : Type 0} (t : Region → Bool) (s : Planned → Bool) (u : Region → A) (v : Planned → A)
    → ((n : ℕ) (r : Planned) → t (placed_region n r) ≡ s r) → ((n : ℕ) (r : Planned) → u (placed_region n r) ≡ v r)
    → (n : ℕ) (q : Plan) → map u (filter t (placed_regions n q)) ≡ map v (filter s (regions_of q))
rows_same t s u v tests same n [] = refl
rows_same {A} t s u v tests same n (d ∷ q) = go d.regions (rows_same t s u v tests same (suc n) q)
  where
    go : (rs : List Planned) → map u (filter t (placed_regions (suc n) q)) ≡ map v (filter s (regions_of q))
        → map u (filter t (map (placed_region n) rs ++ placed_regions (suc n) q)) ≡ map v (filter s (rs ++ regions_of q))
    go [] later = later
    go (r ∷ rs) later = by (t (placed_region n r)) (s r) (tests n r) (go rs later)
      where
        by : (b d : Bool) → b ≡ d → map u (filter t (map (placed_region n) rs ++ placed_regions (suc n) q)) ≡ map v (filter s (rs ++ regions_of q))
            → map u (cond b (placed_region n r ∷ filter t (map (placed_region n) rs ++ placed_regions (suc n) q)) (filter t (map (placed_region n) rs ++ placed_regions (suc n) q)))
            ≡ map v (cond d (r ∷ filter s (rs ++ regions_of q)) (filter s (rs ++ regions_of q)))
        by true true e rest = let first = same n r in cc
        by false false e rest = rest
        by true false e rest = absurd cc
        by false true e rest = absurd cc

pub has_places : (q : Plan) → PlacesOf (placement_of q) q
has_places q = record {
  bases = same_base q;
  copies = rows_same is_copied plan.is_copied (λ r. record { source = r.load; target = r.base; size = r.length }) plan.copy_row (λ n r. refl) (λ n r. refl) 0 q;
  parts = rows_same (λ r. nat_lt 0 r.zero) plan.is_cleared (λ r. record { base = r.base + r.length; size = r.zero }) plan.zero_row (λ n r. refl) (λ n r. refl) 0 q;
  boot = refl;
}

-- ---- veneers

abbrev leads : ℕ → Home → Bool → PlacedVeneer → Bool
leads n target thumb v = leads_to n target thumb v.veneer

veneer_of_thing : (n m : ℕ) (target : Home) (thumb : Bool) (s : Stood) → (m == n) ≡ true
    → option_map (λ (v : PlacedVeneer). v.address) (find (leads n target thumb) (veneer_of m s.thing s.address)) ≡ option_map (λ (z : Stood). z.address) (cond (is_veneer target thumb s.thing) (Some s) None)
veneer_of_thing n m target thumb s e = go s.thing
  where
    go : (t : Thing) → option_map (λ (v : PlacedVeneer). v.address) (find (leads n target thumb) (veneer_of m t s.address)) ≡ option_map (λ (z : Stood). z.address) (cond (is_veneer target thumb t) (Some s) None)
    go Header = refl
    go (AnArea i) = refl
    go (Startup words) = refl
    go (AVeneer home state) = rw e (by (is_veneer target thumb (AVeneer home state)))
      where
        by : (b : Bool) → option_map (λ (v : PlacedVeneer). v.address) (cond b (Some (record {
          veneer = record { region = m; area = record { object = home.object; area = home.area }; offset = home.offset; thumb = state };
          address = s.address;
        })) None) ≡ option_map (λ (z : Stood). z.address) (cond b (Some s) None)
        by true = refl
        by false = refl

no_veneer : (n m : ℕ) (target : Home) (thumb : Bool) (s : Stood) → (m == n) ≡ false → find (leads n target thumb) (veneer_of m s.thing s.address) ≡ None
no_veneer n m target thumb s e = go s.thing
  where
    go : (t : Thing) → find (leads n target thumb) (veneer_of m t s.address) ≡ None
    go Header = refl
    go (AnArea i) = refl
    go (Startup words) = refl
    go (AVeneer home state) = rw e refl

veneer_in_region : (n : ℕ) (target : Home) (thumb : Bool) (r : Planned) → (r.number == n) ≡ true
    → option_map (λ (v : PlacedVeneer). v.address) (find (leads n target thumb) (veneers_of r)) ≡ address_of (is_veneer target thumb) (stood_in r)
veneer_in_region n target thumb r e =
    found_each (λ (v : PlacedVeneer). v.address) (λ (s : Stood). s.address) (leads n target thumb) (λ s. is_veneer target thumb s.thing) (λ s. veneer_of r.number s.thing s.address)
    (λ s. veneer_of_thing n r.number target thumb s e) (stood_in r)

none_in_region : (n : ℕ) (target : Home) (thumb : Bool) (r : Planned) → (r.number == n) ≡ false → find (leads n target thumb) (veneers_of r) ≡ None
none_in_region n target thumb r e = found_nowhere (leads n target thumb) (λ s. veneer_of r.number s.thing s.address) (λ s. no_veneer n r.number target thumb s e) (stood_in r)

-- regions that are counted from a number on
abbrev pub AreCounted : ℕ → List Planned → Type 0
AreCounted n [] = Unit {0}
AreCounted n (r ∷ rs) = (r.number ≡ n) × AreCounted (suc n) rs

pub counted : (words origin n : ℕ) (rs : List Planned) (ps : List Part) (ls : List RegionLayout) → AreOf words origin n rs ps ls → AreCounted n rs
counted words origin n [] ps ls all = tt
counted words origin n (r ∷ rs) [] ls all = absurd all
counted words origin n (r ∷ rs) (p ∷ ps) [] all = absurd all
counted words origin n (r ∷ rs) (p ∷ ps) (l ∷ ls) (h, all) = (h.named, counted words origin (suc n) rs ps ls all)

number_at : (n : ℕ) (rs : List Planned) (i : ℕ) (r : Planned) → AreCounted n rs → slice_get rs i ≡ Some r → r.number ≡ n + i
number_at n [] i r all at = absurd cc
number_at n (x ∷ rs) zero r (own, all) at = let same : x ≡ r = cc in let number = ap (λ (q : Planned). q.number) same in omega (arith, own, number)
number_at n (x ∷ rs) (suc i) r (own, all) at = let rest = number_at (suc n) rs i r all at in omega (arith, rest)

or_nothing : {X : Type 0} (o p : Option X) → p ≡ None → option_or o p ≡ o
or_nothing None p e = e
or_nothing (Some x) p e = refl

none_behind : (n m : ℕ) (target : Home) (thumb : Bool) (rs : List Planned) → AreCounted m rs → n < m → find (leads n target thumb) (flat_map veneers_of rs) ≡ None
none_behind n m target thumb [] all lt = refl
none_behind n m target thumb (r ∷ rs) (own, all) lt =
    let other : (r.number == n) ≡ false = ne_eqb r.number n (λ e. absurd (omega (arith, own, lt, e))) in
    let here = none_in_region n target thumb r other in
    let rest = none_behind n (suc m) target thumb rs all (omega (arith, lt)) in
    let split = find-append (leads n target thumb) (veneers_of r) (flat_map veneers_of rs) in
    cc

pub veneer_there : (n m : ℕ) (target : Home) (thumb : Bool) (rs : List Planned) (i : ℕ) (r : Planned) → AreCounted m rs → slice_get rs i ≡ Some r → r.number ≡ n
    → option_map (λ (v : PlacedVeneer). v.address) (find (leads n target thumb) (flat_map veneers_of rs)) ≡ address_of (is_veneer target thumb) (stood_in r)
veneer_there n m target thumb [] i r all at own = absurd cc
veneer_there n m target thumb (x ∷ rs) zero r (number, all) at own =
    let same : x ≡ r = cc in
    let first : x.number ≡ n = ap (λ q. q.number) same ∙ own in
    let here = veneer_in_region n target thumb x (eq-eqb x.number n first) in
    let rest = ap (option_map (λ (v : PlacedVeneer). v.address)) (none_behind n (suc m) target thumb rs all (omega (arith, number, first))) in
    let split = find_both (λ (v : PlacedVeneer). v.address) (leads n target thumb) (veneers_of x) (flat_map veneers_of rs) in
    split ∙ or_nothing (option_map (λ (v : PlacedVeneer). v.address) (find (leads n target thumb) (veneers_of x))) (option_map (λ (v : PlacedVeneer). v.address) (find (leads n target thumb) (flat_map veneers_of rs))) rest ∙ here ∙ ap (λ q. address_of (is_veneer target thumb) (stood_in q)) same
veneer_there n m target thumb (x ∷ rs) (suc i) r (number, all) at own =
    let later : m < n = omega (arith, number_at (suc m) rs i r all at, own) in
    let other : (x.number == n) ≡ false = ne_eqb x.number n (λ e. absurd (omega (arith, number, later, e))) in
    let here = none_in_region n target thumb x other in
    let rest = veneer_there n (suc m) target thumb rs i r all at own in
    let split = find-append (leads n target thumb) (veneers_of x) (flat_map veneers_of rs) in
    ap (option_map (λ (v : PlacedVeneer). v.address)) (split ∙ ap (λ o. option_or o (find (leads n target thumb) (flat_map veneers_of rs))) here) ∙ rest

-- those of a region of a number are those that the plan has there
pub veneers_there : (k : Kind) (c : Contents) (i : ℕ) (r : Planned) → slice_get (regions_of (plan_of k c)) i ≡ Some r → (target : Home) (thumb : Bool)
    → veneers_at (placement_of (plan_of k c)) r.number target thumb ≡ address_of (is_veneer target thumb) (stood_in r)
veneers_there k c i r at target thumb =
    let q : Plan = plan_of k c in
    veneer_there r.number 0 target thumb (regions_of q) i r
    (counted (table_words k c) (origin_of k) 0 (regions_of q) (parts_of k c) (laid_plan 0 q) (are_planned k c (table_words k c))) at refl
