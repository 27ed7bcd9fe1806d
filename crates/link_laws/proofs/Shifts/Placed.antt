-- A link that is made as a relocatable AIF: its placement is one at 0, moved to its base.
use Rattle.std.proofs.Common.{◌≡◌, ℕ, zero, suc, ◌+◌, ◌%◌, Bool, true, false, not, cond, ◌&&◌, ◌==◌, List, [], ◌∷◌, ◌++◌, map, refl, sym, ap, ◌∙◌, arith, Option, Some, None}
use Rattle.std.specs.Prelude.{slice_get, unwrap_or, is_some}
use Rattle.std.specs.List.{flat_map, find, AllByRecursion}
use Rattle.std.specs.Option.{option_map, option_or}
use Rattle.std.proofs.lemmas.List.{map-append}
use Rattle.std.proofs.lemmas.List.Folds.{find-append}
use Rattle.base_lemmas.proofs.BaseLemmas.{all_append}
use Rattle.sdt_word.specs.declared.ranges.Range32.{Range32}
use Rattle.aof_object.specs.declared.records.Area.{Area}
use Rattle.aof_object.specs.declared.records.Object.{Object}
use Rattle.place_model.specs.declared.scatter.Kind.{Kind}
use Rattle.place_model.specs.declared.scatter.Kind.TheVariants as kind
use Rattle.place_model.specs.Items.{is_zero_initialised}
use Rattle.place_model.specs.Plans.{Contents, areas_in, Planned, zero_length_of, zero_base_of, Plan, regions_of, stood_in, boot_address, is_startup}
use Rattle.place_model.specs.Plans as plan
use Rattle.place_model.specs.Things.{Thing, Header, AnArea, AVeneer, Startup, Stood, stood, start_of, size_of}
use Rattle.place_model.proofs.ListLemmas.{all_flat, all_indexed, all_at}
use Rattle.image_model.specs.AifFiles.{aif_plan}
use Rattle.link_model.specs.declared.placing.Assigned.{Assigned}
use Rattle.link_model.specs.declared.placing.PlacedArea.{PlacedArea}
use Rattle.link_model.specs.declared.placing.Placement.{Placement}
use Rattle.link_model.specs.declared.placing.Region.{Region}
use Rattle.link_model.specs.declared.placing.Veneer.{Veneer}
use Rattle.link_model.specs.declared.selection.Linked.{Linked}
use Rattle.link_model.specs.declared.selection.Named.{Named}
use Rattle.link_items.specs.LinkedItems.{contents_of}
use Rattle.link_values.specs.Placed.{is_area, base_in}
use Rattle.link_place.specs.Placed.{placed_region, placed_regions, area_of, veneer_of, areas_of, veneers_of, placement_of}
use Rattle.link_laws.specs.AifJoins.{moved_region, moved_plan, moved_thing}
use Rattle.link_laws.specs.Joins.{IsMade}
use Rattle.link_laws.specs.Placing.{bases_of, link_plan, IsPlacedLink}
use Rattle.link_laws.proofs.Made.PlacedLemmas.{is_placement, made_is_placed}
use Rattle.link_laws.proofs.PlacedLemmas.{IsFound, found as found_area, objects_are_placed}
use Rattle.link_laws.proofs.RegionLemmas.{IsShaped, all_shaped, things_all, zeros_all, header_all}
use Rattle.link_laws.proofs.Shifts.Linked.{IsWholeImage}
use Rattle.link_laws.proofs.Shifts.Placement.{moved_place, moved_area, moved_veneer, moved_placement, find_moves, find_area_moves}
use Rattle.link_laws.proofs.Shifts.Plans.{flat_moves, length_moves, zero_length_moves, things_move, regions_move, plan_law}
use Rattle.link_laws.proofs.ReducedLemmas.{plain_base, plain_bases}

-- ---- the placement of a plan that is moved

same_region : (by number : ℕ) (r : Planned) → placed_region number (moved_region by r) ≡ moved_place by (placed_region number r)
same_region by number r =
    ap (λ (n : ℕ). record (placed_region number r) { load = r.load + by; base = r.base + by; length = n; zero = zero_length_of (moved_region by r) }) (length_moves by r)
    ∙ ap (λ (n : ℕ). record (placed_region number r) { load = r.load + by; base = r.base + by; zero = n }) (zero_length_moves by r)

regions_placed : (by number : ℕ) (rs : List Planned) → map (placed_region number) (map (moved_region by) rs) ≡ map (moved_place by) (map (placed_region number) rs)
regions_placed by number [] = refl
regions_placed by number (r ∷ rs) =
    ap (λ (x : Region). x ∷ map (placed_region number) (map (moved_region by) rs)) (same_region by number r)
    ∙ ap (λ (xs : List Region). moved_place by (placed_region number r) ∷ xs) (regions_placed by number rs)

all_placed : (by number : ℕ) (p : Plan) → placed_regions number (moved_plan by p) ≡ map (moved_place by) (placed_regions number p)
all_placed by number [] = refl
all_placed by number (l ∷ loads) =
    ap (λ (xs : List Region). xs ++ placed_regions (suc number) (moved_plan by loads)) (regions_placed by number l.regions)
    ∙ ap (λ (xs : List Region). map (moved_place by) (map (placed_region number) l.regions) ++ xs) (all_placed by (suc number) loads)
    ∙ sym (map-append (moved_place by) (map (placed_region number) l.regions) (placed_regions (suc number) loads))

area_placed : (by number : ℕ) (s : Stood) → area_of number s.thing (s.address + by) ≡ map (moved_area by) (area_of number s.thing s.address)
area_placed by number s = go s.thing
  where
    go : (t : Thing) → area_of number t (s.address + by) ≡ map (moved_area by) (area_of number t s.address)
    go Header = refl
    go (AnArea i) = refl
    go (AVeneer target thumb) = refl
    go (Startup words) = refl

veneer_placed : (by number : ℕ) (s : Stood) → veneer_of number s.thing (s.address + by) ≡ map (moved_veneer by) (veneer_of number s.thing s.address)
veneer_placed by number s = go s.thing
  where
    go : (t : Thing) → veneer_of number t (s.address + by) ≡ map (moved_veneer by) (veneer_of number t s.address)
    go Header = refl
    go (AnArea i) = refl
    go (AVeneer target thumb) = refl
    go (Startup words) = refl

areas_placed : (by : ℕ) (r : Planned) → areas_of (moved_region by r) ≡ map (moved_area by) (areas_of r)
areas_placed by r =
    ap (flat_map (λ s. area_of r.number s.thing s.address)) (things_move by r)
    ∙ flat_moves (λ s. area_of r.number s.thing s.address) (moved_thing by) (moved_area by) (λ s. area_of r.number s.thing s.address) (area_placed by r.number) (stood_in r)

veneers_placed : (by : ℕ) (r : Planned) → veneers_of (moved_region by r) ≡ map (moved_veneer by) (veneers_of r)
veneers_placed by r =
    ap (flat_map (λ s. veneer_of r.number s.thing s.address)) (things_move by r)
    ∙ flat_moves (λ s. veneer_of r.number s.thing s.address) (moved_thing by) (moved_veneer by) (λ s. veneer_of r.number s.thing s.address) (veneer_placed by r.number) (stood_in r)

boot_moves : (by : ℕ) (p : Plan) → boot_address (moved_plan by p) ≡ option_map (λ a. a + by) (boot_address p)
boot_moves by p =
    ap (λ (rs : List Planned). option_map (λ s. s.address) (find (λ s. is_startup s.thing) (flat_map stood_in rs))) (regions_move by p)
    ∙ ap (λ (xs : List Stood). option_map (λ s. s.address) (find (λ s. is_startup s.thing) xs)) (flat_moves stood_in (moved_region by) (moved_thing by) stood_in (things_move by) (regions_of p))
    ∙ ap (option_map (λ s. s.address)) (find_moves (moved_thing by) (λ s. is_startup s.thing) (λ s. is_startup s.thing) (λ s. refl) (flat_map stood_in (regions_of p)))
    ∙ go (find (λ s. is_startup s.thing) (flat_map stood_in (regions_of p)))
  where
    go : (o : Option Stood) → option_map (λ s. s.address) (option_map (moved_thing by) o) ≡ option_map (λ a. a + by) (option_map (λ s. s.address) o)
    go None = refl
    go (Some s) = refl

pub placement_moves : (by : ℕ) (p : Plan) → placement_of (moved_plan by p) ≡ moved_placement by (placement_of p)
placement_moves by p =
    let rs : List Planned = regions_of (moved_plan by p) in
    let areas : flat_map areas_of rs ≡ map (moved_area by) (flat_map areas_of (regions_of p)) =
    ap (flat_map areas_of) (regions_move by p) ∙ flat_moves areas_of (moved_region by) (moved_area by) areas_of (areas_placed by) (regions_of p) in
    let veneers : flat_map veneers_of rs ≡ map (moved_veneer by) (flat_map veneers_of (regions_of p)) =
    ap (flat_map veneers_of) (regions_move by p) ∙ flat_moves veneers_of (moved_region by) (moved_veneer by) veneers_of (veneers_placed by) (regions_of p) in
    let regions = all_placed by 0 p in
    let boot = boot_moves by p in
    λ i. record { regions = regions i; areas = areas i; veneers = veneers i; boot = boot i }

pub aif_placement : (base : ℕ) (c : Contents) → placement_of (aif_plan base true c) ≡ moved_placement base (placement_of (aif_plan 0 true c))
aif_placement base c =
    let own : base ≡ 0 + base = omega arith in
    ap (λ n. placement_of (aif_plan n true c)) own ∙ ap placement_of (plan_law.plan 0 base c) ∙ placement_moves base (aif_plan 0 true c)

-- ---- it has no startup code

none_begins : (ss : List Stood) → AllByRecursion (λ s. is_startup s.thing ≡ false) ss → find (λ s. is_startup s.thing) ss ≡ None
none_begins [] all = refl
none_begins (s ∷ ss) (h, all) = rw h (none_begins ss all)

stood_fine : (origin at : ℕ) (ts : List Thing) → AllByRecursion (λ t. is_startup t ≡ false) ts → AllByRecursion (λ s. is_startup s.thing ≡ false) (stood origin at ts)
stood_fine origin at [] all = tt
stood_fine origin at (t ∷ ts) (h, all) = (h, stood_fine origin (start_of origin at t + size_of t) ts all)

no_boot : (base : ℕ) (c : Contents) → boot_address (aif_plan base true c) ≡ None
no_boot base c =
    let k : Kind = kind.Aif base true in
    let rs : List Planned = regions_of (aif_plan base true c) in
    let P : Thing → Type 0 = λ t. is_startup t ≡ false in
    let fine : AllByRecursion (λ r. AllByRecursion (λ s. is_startup s.thing ≡ false) (stood_in r)) rs = all_indexed (λ r. AllByRecursion (λ s. is_startup s.thing ≡ false) (stood_in r)) rs (λ i r at.
    let shape : IsShaped k c 0 r = all_at (IsShaped k c 0) rs i r (all_shaped k c 0) at in
    all_append (λ s. is_startup s.thing ≡ false) (stood r.origin r.base r.things) (stood r.origin (zero_base_of r) r.zeros)
    (stood_fine r.origin r.base r.things (things_all P k c 0 r shape (header_all P k r.number refl) tt (λ t b. refl) (all_indexed (λ x. not (is_zero_initialised x) ≡ true → P (AnArea x)) (areas_in c r.number) (λ j x there e. refl))))
    (stood_fine r.origin (zero_base_of r) r.zeros (zeros_all P k c 0 r shape (all_indexed (λ x. is_zero_initialised x ≡ true → P (AnArea x)) (areas_in c r.number) (λ j x there e. refl))))) in
    ap (option_map (λ s. s.address)) (none_begins (flat_map stood_in rs) (all_flat (λ s. is_startup s.thing ≡ false) stood_in rs fine))

-- ---- an area of the plan is one of the placement

map_or : {X A : Type 0} (u : X → A) (o p : Option X) → option_map u (option_or o p) ≡ option_or (option_map u o) (option_map u p)
map_or u None p = refl
map_or u (Some x) p = refl

find_both : {X A : Type 0} (u : X → A) (test : X → Bool) (xs ys : List X) → option_map u (find test (xs ++ ys)) ≡ option_or (option_map u (find test xs)) (option_map u (find test ys))
find_both u test xs ys = ap (option_map u) (find-append test xs ys) ∙ map_or u (find test xs) (find test ys)

found_each : {Y Z A : Type 0} (u : Y → A) (v : Z → A) (t : Y → Bool) (s : Z → Bool) (g : Z → List Y)
    → ((z : Z) → option_map u (find t (g z)) ≡ option_map v (cond (s z) (Some z) None))
    → (zs : List Z) → option_map u (find t (flat_map g zs)) ≡ option_map v (find s zs)
found_each u v t s g same [] = refl
found_each u v t s g same (z ∷ zs) =
    let here = same z in
    let rest = found_each u v t s g same zs in
    let one = find_both u t (g z) (flat_map g zs) in
    let two = find_both v s (z ∷ []) zs in
    cc

found_flat : {X Y Z A : Type 0} (u : Y → A) (v : Z → A) (t : Y → Bool) (s : Z → Bool) (g : X → List Y) (f : X → List Z)
    → ((x : X) → option_map u (find t (g x)) ≡ option_map v (find s (f x)))
    → (xs : List X) → option_map u (find t (flat_map g xs)) ≡ option_map v (find s (flat_map f xs))
found_flat u v t s g f same [] = refl
found_flat u v t s g f same (x ∷ xs) =
    let here = same x in
    let rest = found_flat u v t s g f same xs in
    let one = find_both u t (g x) (flat_map g xs) in
    let two = find_both v s (f x) (flat_map f xs) in
    cc

area_of_thing : (object area n : ℕ) (s : Stood)
    → option_map (λ a. a.address) (find (is_area object area) (area_of n s.thing s.address)) ≡ option_map (λ z. z.address) (cond (plan.is_area object area s.thing) (Some s) None)
area_of_thing object area n s = go s.thing
  where
    go : (t : Thing) → option_map (λ a. a.address) (find (is_area object area) (area_of n t s.address)) ≡ option_map (λ z. z.address) (cond (plan.is_area object area t) (Some s) None)
    go Header = refl
    go (AVeneer target thumb) = refl
    go (Startup words) = refl
    go (AnArea i) = by (i.object == object && i.area == area)
      where
        by : (b : Bool) → option_map (λ (a : PlacedArea). a.address) (cond b (Some (record { area = record { object = i.object; area = i.area }; region = n; address = s.address })) None)
            ≡ option_map (λ z. z.address) (cond b (Some s) None)
        by false = refl
        by true = refl

addresses_same : (p : Plan) (object area : ℕ)
    → option_map (λ a. a.address) (find (is_area object area) (placement_of p).areas) ≡ option_map (λ s. s.address) (find (λ s. plan.is_area object area s.thing) (flat_map stood_in (regions_of p)))
addresses_same p object area =
    found_flat (λ a. a.address) (λ s. s.address) (is_area object area) (λ s. plan.is_area object area s.thing) areas_of stood_in
    (λ r. found_each (λ a. a.address) (λ s. s.address) (is_area object area) (λ s. plan.is_area object area s.thing) (λ s. area_of r.number s.thing s.address) (area_of_thing object area r.number) (stood_in r))
    (regions_of p)

some_flat : {X Y : Type 0} (test : Y → Bool) (f : X → List Y) (xs : List X) (i : ℕ) (x : X) → slice_get xs i ≡ Some x → is_some (find test (f x)) ≡ true → is_some (find test (flat_map f xs)) ≡ true
some_flat test f [] i x at some = absurd cc
some_flat {X} {Y} test f (y ∷ ys) zero x at some =
    let is : y ≡ x = cc in
    ap is_some (find-append test (f y) (flat_map f ys)) ∙ first (find test (f y)) (find test (flat_map f ys)) (ap (λ (z : X). is_some (find test (f z))) is ∙ some)
  where
    first : (o p : Option Y) → is_some o ≡ true → is_some (option_or o p) ≡ true
    first None p e = absurd cc
    first (Some z) p e = refl
some_flat {X} {Y} test f (y ∷ ys) (suc i) x at some =
    ap is_some (find-append test (f y) (flat_map f ys)) ∙ second (find test (f y)) (find test (flat_map f ys)) (some_flat test f ys i x at some)
  where
    second : (o p : Option Y) → is_some p ≡ true → is_some (option_or o p) ≡ true
    second None p e = e
    second (Some z) p e = refl

is_mapped : {X Y : Type 0} (f : X → Y) (o : Option X) → is_some (option_map f o) ≡ is_some o
is_mapped f None = refl
is_mapped f (Some x) = refl

-- ---- a link that is made

module _ (base : ℕ) (ram : Option (List Range32)) (l : Linked) (a : Assigned) (vs : List Veneer) (p : Placement) (h : IsMade (kind.Aif base true) ram l a vs p) where
  abbrev k : Kind
  k = kind.Aif base true

  abbrev c : Contents
  c = contents_of l.objects a.regions vs

  pub is_placed_link : IsPlacedLink k ram l a.regions vs
  is_placed_link = made_is_placed k ram l a vs p h

  -- the placement at 0
  abbrev pub at_0 : Placement
  at_0 = placement_of (aif_plan 0 true c)

  pub is_moved : p ≡ moved_placement base at_0
  is_moved = is_placement k ram l a vs p h ∙ aif_placement base c

  in_plan : (own area : ℕ) (o : Named Object) (x : Area) → slice_get l.objects own ≡ Some o → slice_get o.value.areas area ≡ Some x → IsFound (link_plan k l a.regions vs) own area
  in_plan own area o x here there = found_area k ram l a.regions vs is_placed_link own o here area x there

  same_find : (own area : ℕ) → option_map (λ z. z.address) (option_map (moved_area base) (find (is_area own area) at_0.areas))
      ≡ option_map (λ s. s.address) (find (λ s. plan.is_area own area s.thing) (flat_map stood_in (regions_of (link_plan k l a.regions vs))))
  same_find own area =
      ap (option_map (λ z. z.address)) (sym (find_area_moves base at_0 own area))
      ∙ ap (λ (z : Placement). option_map (λ (y : PlacedArea). y.address) (find (is_area own area) z.areas)) (sym (aif_placement base c)) ∙ addresses_same (link_plan k l a.regions vs) own area

  known : (own area : ℕ) (o : Named Object) (x : Area) → slice_get l.objects own ≡ Some o → slice_get o.value.areas area ≡ Some x → is_some (find (is_area own area) at_0.areas) ≡ true
  known own area o x here there =
      let f = in_plan own area o x here there in
      let test : Stood → Bool = λ s. plan.is_area own area s.thing in
      let some : is_some (find test (flat_map stood_in (regions_of (link_plan k l a.regions vs)))) ≡ true =
      some_flat test stood_in (regions_of (link_plan k l a.regions vs)) f.place f.owner f.at (ap is_some f.there) in
      go (find (is_area own area) at_0.areas) (ap is_some (same_find own area) ∙ is_mapped (λ (s : Stood). s.address) (find test (flat_map stood_in (regions_of (link_plan k l a.regions vs)))) ∙ some)
    where
      go : (z : Option PlacedArea) → is_some (option_map (λ y. y.address) (option_map (moved_area base) z)) ≡ true → is_some z ≡ true
      go None e = e
      go (Some y) e = refl

  same_base : (own area : ℕ) (o : Named Object) (x : Area) → slice_get l.objects own ≡ Some o → slice_get o.value.areas area ≡ Some x → bases_of (link_plan k l a.regions vs) own area ≡ base_in at_0 own area + base
  same_base own area o x here there =
      plain_bases (link_plan k l a.regions vs) own area (no_boot base c)
      ∙ ap (λ (z : Option ℕ). unwrap_or z 0) (sym (same_find own area)) ∙ go (find (is_area own area) at_0.areas) (known own area o x here there)
      ∙ ap (λ (n : ℕ). n + base) (sym (plain_base at_0 own area (no_boot 0 c)))
    where
      go : (z : Option PlacedArea) → is_some z ≡ true → unwrap_or (option_map (λ y. y.address) (option_map (moved_area base) z)) 0 ≡ unwrap_or (option_map (λ y. y.address) z) 0 + base
      go None e = absurd cc
      go (Some y) e = refl

  pub base_whole : base % 4 ≡ 0
  base_whole = h.loads.0

  whole : (own area : ℕ) (o : Named Object) (x : Area) → slice_get l.objects own ≡ Some o → slice_get o.value.areas area ≡ Some x → base_in at_0 own area % 4 ≡ 0
  whole own area o x here there =
      let placed = objects_are_placed k ram l a.regions vs (λ q. None) is_placed_link own o here in
      let aligned : bases_of (link_plan k l a.regions vs) own area % 4 ≡ 0 = placed.aligned area x there in
      let same = same_base own area o x here there in
      let here_4 = base_whole in
      omega (arith, aligned, same, here_4)

  pub whole_image : IsWholeImage l at_0
  whole_image = record { valid = h.valid; boot = no_boot 0 c; start = λ by. omega arith; there = known; aligned = whole }
