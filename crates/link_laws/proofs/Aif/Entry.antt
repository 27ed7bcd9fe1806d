-- What an AIF's header calls stands in the image behind its header, and leads to the entry.
use Rattle.std.proofs.Common.{◌≡◌, ◌⊎◌, inl, inr, ℕ, zero, suc, ◌+◌, ◌%◌, ◌^◌, ◌<◌, ◌≤◌, Bool, true, false, not, ◌&&◌, ◌==◌, if◌then◌else◌, List, [], ◌∷◌, ◌++◌, length, map, refl, sym, ap, subst, ◌∙◌, arith, leb-true, eqb-true, Option, Some, None}
use Rattle.std.specs.Prelude.{slice_get, nat_le, unwrap_or, IsSomeAnd}
use Rattle.std.specs.List.{filter, filter_map, find, AllByRecursion}
use Rattle.std.specs.Option.{option_map}
use Rattle.std.proofs.lemmas.Option.{slice_get-map}
use Rattle.base_lemmas.proofs.BaseLemmas.{all_append, all_weaker, both_true, same}
use Rattle.sdt_word.specs.Numbers.{bit}
use Rattle.sdt_word.specs.declared.ranges.Range32.{Range32}
use Rattle.aof_object.specs.declared.areas.AreaHead.{AreaHead}
use Rattle.aof_object.specs.declared.records.Area.{Area}
use Rattle.aof_object.specs.declared.records.Object.{Object}
use Rattle.aof_object.specs.Checks.{left_over}
use Rattle.aof_object.specs.Validity.{Holds as HoldsArea, IsValid, IsEntered, head_of, heads}
use Rattle.patch_model.specs.Fields.{Kind as FieldKind, Home, field_of, kind_of, size_of as field_size, number_in}
use Rattle.patch_model.specs.Patched.{is_branch}
use Rattle.place_model.specs.declared.scatter.Kind.{Kind}
use Rattle.place_model.specs.declared.scatter.Kind.TheVariants as kind
use Rattle.place_model.specs.Items.{Item, is_zero_initialised}
use Rattle.place_model.specs.Plans.{Contents, areas_in, veneers_in, startup_in, Planned, length_of, zero_base_of, zero_length_of, end_of, Plan, regions_of, stood_in, is_area}
use Rattle.place_model.specs.Things.{Thing, Header, AnArea, AVeneer, size_of, gap, extent, Stood, stood}
use Rattle.place_model.proofs.ListLemmas.{all_at, all_indexed}
use Rattle.image_model.specs.AifFiles.{parts_size, zero_size, aif_plan}
use Rattle.image_laws.proofs.FileLemmas.{rooms}
use Rattle.image_laws.proofs.PlainLemmas.{r0, r1, r2, zero_0, zero_1, third_empty}
use Rattle.link_model.specs.declared.placing.Assigned.{Assigned}
use Rattle.link_model.specs.declared.placing.Placement.{Placement}
use Rattle.link_model.specs.declared.placing.Veneer.{Veneer}
use Rattle.link_model.specs.declared.selection.Linked.{Linked}
use Rattle.link_model.specs.declared.selection.Named.{Named}
use Rattle.link_model.specs.Definitions.{is_thumb}
use Rattle.link_model.specs.Members.{link_of}
use Rattle.link_model.specs.Veneers.{needed_by_header, veneers_of, IsIn, BranchNeeds, IsNeeded}
use Rattle.link_model.proofs.NeedLemmas.{veneers_law}
use Rattle.link_items.specs.LinkedItems.{item_of, items_in, item_at, region_veneer, contents_of}
use Rattle.link_place.specs.Placed.{placement_of}
use Rattle.link_apply.specs.Placed.{veneers_at, target_in, home_of, called}
use Rattle.link_laws.specs.Joins.{IsEntryOf}
use Rattle.link_laws.specs.Placing.{bases_of, veneers_in as veneers_of_plan, IsPlacedLink}
use Rattle.link_laws.specs.Plans.{call_by}
use Rattle.link_laws.proofs.ItemLemmas.{area_valid}
use Rattle.link_laws.proofs.ListLemmas.{found_all, in_filter, in_filter_map, in_back, in_front, in_map}
use Rattle.link_laws.proofs.Made.AddressLemmas.{has_places, veneers_there}
use Rattle.link_laws.proofs.Made.AppliedLemmas.{IsNamed, is_named, IsBranchOf, is_needing}
use Rattle.link_laws.proofs.Made.VeneerLemmas.{veneer_to, AreOnce, things_apart, is_first}
use Rattle.link_laws.proofs.PlacedLemmas.{IsFound, shaped, aligned, found as found_area, full_base, is_item, thing_of, somewhere, IsSomewhere, objects_are_placed}
use Rattle.link_laws.proofs.RegionLemmas.{IsWithin, stood_within, stood_in_place}

-- ---- lists

none_passes : {X : Type 0} (test : X → Bool) (xs : List X) → AllByRecursion (λ x. test x ≡ false) xs → filter test xs ≡ []
none_passes test [] all = refl
none_passes test (x ∷ xs) all = rw (all.0) (none_passes test xs all.1)

map_passes : {X Y : Type 0} (f : X → Y) (test : Y → Bool) (xs : List X) → AllByRecursion (λ x. test (f x) ≡ false) xs → AllByRecursion (λ y. test y ≡ false) (map f xs)
map_passes f test [] all = tt
map_passes f test (x ∷ xs) all = (all.0, map_passes f test xs all.1)

all_things : (ts : List Thing) → AllByRecursion (λ t. Unit {0}) ts
all_things [] = tt
all_things (t ∷ ts) = (tt, all_things ts)

-- ---- an object's entry

pub record IsEntryAt (o : Object) (area offset : ℕ) (thumb : Bool) : Type 0 where
  pub area_is : Area
  pub there : slice_get o.areas area ≡ Some area_is
  pub inside : offset < area_is.size
  pub words : area_is.size % 4 ≡ 0
  pub even : offset % 2 ≡ 0
  pub whole : thumb ≡ false → offset % 4 ≡ 0

entry_in : (o : Object) (area offset : ℕ) (thumb : Bool) → IsValid o → IsEntered (heads o.areas) (Some (record { area = area; offset = offset })) → thumb ≡ is_thumb (slice_get o.areas area) → IsEntryAt o area offset thumb
entry_in o area offset thumb valid entered state = go (slice_get o.areas area) refl (subst (λ (z : Option AreaHead). IsSomeAnd z (λ h. (offset < h.size) × (left_over h.attributes offset ≡ 0))) (slice_get-map head_of o.areas area) entered) state
  where
    even_by : (b : Bool) → (if b then offset % 2 else offset % 4) ≡ 0 → offset % 2 ≡ 0
    even_by true e = e
    even_by false e = omega (arith, e)

    whole_by : (b : Bool) → b ≡ false → (if b then offset % 2 else offset % 4) ≡ 0 → offset % 4 ≡ 0
    whole_by true f e = absurd cc
    whole_by false f e = e

    go : (z : Option Area) → slice_get o.areas area ≡ z → IsSomeAnd (option_map head_of z) (λ h. (offset < h.size) × (left_over h.attributes offset ≡ 0)) → thumb ≡ is_thumb z → IsEntryAt o area offset thumb
    go None e h f = absurd h
    go (Some x) e h f =
        let (names, is) = area_valid o area x valid e in
        record {
          area_is = x;
          there = e;
          inside = h.0;
          words = is.whole_words;
          even = even_by (bit x.attributes 20 == 1) h.1;
          whole = λ arm. whole_by (bit x.attributes 20 == 1) (sym f ∙ arm) h.1;
        }

-- ---- an image at a base

-- what is called is a word of the image behind the header
pub record IsCalled (base end call : ℕ) : Type 0 where
  pub whole : call % 4 ≡ 0
  pub low : base + 128 ≤ call
  pub high : call + 4 ≤ end

module _ (base : ℕ) (rel : Bool) (ram : Option (List Range32)) (l : Linked) (a : Assigned) (vs : List Veneer) (h : IsPlacedLink (kind.Aif base rel) ram l a.regions vs)
    (needed : vs ≡ veneers_of (link_of l) a.regions true) (entered : IsEntryOf l) where
  abbrev k : Kind
  k = kind.Aif base rel

  abbrev c : Contents
  c = contents_of l.objects a.regions vs

  abbrev plan : Plan
  plan = aif_plan base rel c

  abbrev p : Placement
  p = placement_of plan

  abbrev ro : Planned
  ro = r0 k c base (items_in l.objects) h.assigned.each

  abbrev rw_ : Planned
  rw_ = r1 k c base (items_in l.objects) h.assigned.each

  abbrev zi : Planned
  zi = r2 k c base (items_in l.objects) h.assigned.each

  abbrev rs : List Planned
  rs = ro ∷ rw_ ∷ zi ∷ []

  abbrev end : ℕ
  end = base + (parts_size plan + zero_size plan)

  no_zero_0 : zero_length_of ro ≡ 0
  no_zero_0 = zero_0 k c base (items_in l.objects) h.assigned.each

  no_zero_1 : zero_length_of rw_ ≡ 0
  no_zero_1 = zero_1 k c base (items_in l.objects) h.assigned.each

  -- ---- no veneer stands in the third region

  none_behind : (v : Veneer) → IsIn vs v → (v.region == 2) ≡ false
  none_behind v there = go (v.region == 2) refl ((veneers_law (link_of l) a.regions true).only v (subst (λ (ws : List Veneer). IsIn ws v) needed there))
    where
      by_header : (b : Bool) (i : ℕ)
          → slice_get (if b then (record { region = 0; area = record { object = l.entry.object; area = l.entry.area }; offset = l.entry.offset; thumb = true }) ∷ [] else []) i ≡ Some v → v.region ≡ 2 → ⊥
      by_header true zero e two = let is = same _ v e in let first : 0 ≡ v.region = ap (λ (z : Veneer). z.region) is in omega (arith, first, two)
      by_header true (suc i) e two = cc
      by_header false i e two = cc

      by_branch : BranchNeeds (link_of l) a.regions v → v.region ≡ 2 → ⊥
      by_branch b two =
          let named : IsNamed l.objects b.name b.area = is_named l.objects b.name b.area b.there in
          let o : Named Object = named.object in
          let item : Item = item_of b.name.object o.«module» b.name.area b.area in
          let is : item_at l.objects b.name ≡ Some item = rw (named.at) (rw (named.there) refl) in
          let in_names : IsIn (filter_map (item_at l.objects) b.areas) item = in_filter_map (item_at l.objects) b.areas b.name item is b.assigned in
          let at : slice_get a.regions 2 ≡ Some b.areas = ap (slice_get a.regions) (sym two) ∙ b.region in
          let list : slice_get c.areas 2 ≡ Some (filter_map (item_at l.objects) b.areas) = slice_get-map (filter_map (item_at l.objects)) a.regions 2 ∙ ap (option_map (filter_map (item_at l.objects))) at in
          let whole : areas_in c 2 ≡ filter_map (item_at l.objects) b.areas = ap (λ (z : Option (List Item)). unwrap_or z []) list in
          let in_list : IsIn (areas_in c 2) item = subst (λ (xs : List Item). IsIn xs item) (sym whole) in_names in
          let valid : IsValid o.value = all_at (λ q. IsValid q.value) l.objects b.name.object o h.valid named.at in
          let holds : HoldsArea (length o.value.areas) (length o.value.symbols) b.area = all_at (HoldsArea (length o.value.areas) (length o.value.symbols)) o.value.areas b.name.area b.area valid.contents named.there in
          by_bit (bit b.area.attributes 12 == 1) refl in_list holds.bytes
        where
          -- it has bytes
          some : 4 ≤ length b.area.bytes
          some =
              let is : IsBranchOf b.area b.reloc = is_needing (link_of l) v.region b.name b.area b.reloc v b.needs in
              let (room, branch) = both_true (nat_le ((field_of b.reloc).place + field_size (field_of b.reloc).kind) (length b.area.bytes)) (is_branch is.thumb (number_in b.area.bytes (field_of b.reloc))) is.branch in
              let fits : (field_of b.reloc).place + field_size (kind_of b.reloc) ≤ length b.area.bytes = leb-true ((field_of b.reloc).place + field_size (kind_of b.reloc)) (length b.area.bytes) room in
              let within : (field_of b.reloc).place + 4 ≤ length b.area.bytes = subst (λ (z : FieldKind). (field_of b.reloc).place + field_size z ≤ length b.area.bytes) is.kind fits in
              omega (arith, within)

          by_bit : {i : Item} (z : Bool) → is_zero_initialised i ≡ z → IsIn (areas_in c 2) i → length b.area.bytes ≡ (if z then 0 else b.area.size) → ⊥
          by_bit true e there size = let n = some in omega (arith, n, size)
          by_bit {i} false e there size =
              let kept : IsIn (filter (λ j. not (is_zero_initialised j)) (areas_in c 2)) i = in_filter (λ j. not (is_zero_initialised j)) (areas_in c 2) i (ap not e) there in
              let none : IsIn {A = Item} [] i = subst (λ (xs : List Item). IsIn xs i) (third_empty k c base (items_in l.objects) h.assigned.each) kept in
              absurd (let e = none.1 in cc)

      go : (b : Bool) → (v.region == 2) ≡ b → IsNeeded (link_of l) a.regions true v → (v.region == 2) ≡ false
      go false e n = e
      go true e (inl i) = absurd (by_header (true && l.entry.thumb) i.0 i.1 (eqb-true v.region 2 e))
      go true e (inr b) = absurd (by_branch b (eqb-true v.region 2 e))

  pub no_veneers : veneers_in c 2 ≡ []
  no_veneers =
      ap (map (λ v. AVeneer v.target v.thumb))
      (none_passes (λ v. v.region == 2) c.veneers (map_passes region_veneer (λ v. v.region == 2) vs (all_indexed (λ v. (v.region == 2) ≡ false) vs (λ i v at. none_behind v (i, at)))))

  -- ---- where things stand

  -- in the image, behind the header or as the header
  abbrev InImage : Stood → Type 0
  InImage s = (s.address + size_of s.thing ≤ end) × ((base + 128 ≤ s.address) ⊎ (s.thing ≡ Header))

  behind : (low high : ℕ) → base + 128 ≤ low → high ≤ end → (ss : List Stood) → AllByRecursion (IsWithin (λ t. Unit {0}) low high) ss → AllByRecursion InImage ss
  behind low high from to ss all = all_weaker (IsWithin (λ t. Unit {0}) low high) InImage (λ s w. let f = w.from in let b = w.below in (omega (arith, b, to), inl (omega (arith, f, from)))) ss all

  -- the first region's things behind the header
  abbrev rest : List Thing
  rest = map AnArea (filter (λ i. not (is_zero_initialised i)) (areas_in c 0)) ++ (veneers_in c 0 ++ startup_in k 0 0)

  abbrev start : ℕ
  start = base + gap ro.origin 4 base + 128

  ro_length : length_of ro ≡ gap ro.origin 4 base + 128 + extent ro.origin start rest
  ro_length = refl

  header_low : base + 128 ≤ base + length_of ro
  header_low = let e = ro_length in omega (arith, e)

  region_behind : (r : Planned) → base + 128 ≤ r.base → end_of r ≤ end → AllByRecursion InImage (stood_in r)
  region_behind r from to =
      all_append InImage (stood r.origin r.base r.things) (stood r.origin (zero_base_of r) r.zeros)
      (behind r.base (zero_base_of r) from (omega (arith, to)) (stood r.origin r.base r.things) (stood_within (λ t. Unit {0}) r.origin r.base r.things r.base (zero_base_of r) (omega arith) (omega arith) (all_things r.things)))
      (behind (zero_base_of r) (end_of r) (omega (arith, from)) to (stood r.origin (zero_base_of r) r.zeros) (stood_within (λ t. Unit {0}) r.origin (zero_base_of r) r.zeros (zero_base_of r) (end_of r) (omega arith) (omega arith) (all_things r.zeros)))

  first_behind : AllByRecursion InImage (stood_in ro)
  first_behind =
      let z0 = no_zero_0 in
      let z1 = no_zero_1 in
      let e = ro_length in (
        (omega (arith, z0, z1, e), inr refl),
        all_append InImage (stood ro.origin start rest) (stood ro.origin (zero_base_of ro) ro.zeros)
            (behind start (zero_base_of ro) (omega arith) (omega (arith, z0, z1)) (stood ro.origin start rest) (stood_within (λ t. Unit {0}) ro.origin start rest start (zero_base_of ro) (omega arith) (omega (arith, e)) (all_things rest)))
            (behind (zero_base_of ro) (end_of ro) header_low (omega (arith, z0, z1)) (stood ro.origin (zero_base_of ro) ro.zeros)
            (stood_within (λ t. Unit {0}) ro.origin (zero_base_of ro) ro.zeros (zero_base_of ro) (end_of ro) (omega arith) (omega arith) (all_things ro.zeros))),
      )

  all_behind : AllByRecursion (λ r. AllByRecursion InImage (stood_in r)) rs
  all_behind =
      let z0 = no_zero_0 in
      let z1 = no_zero_1 in
      let low = header_low in
      (first_behind, (region_behind rw_ (omega (arith, low)) (omega (arith, z0, z1)), (region_behind zi (omega (arith, low)) (omega (arith, z0, z1)), tt)))

  pub room : end ≤ 2 ^ 32
  room =
      let z0 = no_zero_0 in
      let z1 = no_zero_1 in
      let all = (rooms k ram plan h.accepted).1.1.0 in
      omega (arith, z0, z1, all)

  -- ---- the entry

  abbrev own : ℕ
  own = l.entry.object

  abbrev area : ℕ
  area = l.entry.area

  abbrev home : Home
  home = home_of l.entry

  entry_at : IsEntryAt entered.object.value l.entry.area l.entry.offset l.entry.thumb
  entry_at =
      let valid : IsValid entered.object.value = all_at (λ q. IsValid q.value) l.objects l.entry.object entered.object h.valid entered.at in
      entry_in entered.object.value l.entry.area l.entry.offset l.entry.thumb valid (subst (IsEntered (heads entered.object.value.areas)) entered.entry valid.entry) entered.state

  abbrev entry_base : ℕ
  entry_base = bases_of plan l.entry.object l.entry.area

  pub entry_aligned : entry_base % 4 ≡ 0
  entry_aligned = (objects_are_placed k ram l a.regions vs (λ q. None) h l.entry.object entered.object entered.at).aligned l.entry.area entry_at.area_is entry_at.there

  entry_bounds : (base + 128 ≤ entry_base) × (entry_base + entry_at.area_is.size ≤ end)
  entry_bounds =
      let f : IsFound plan l.entry.object l.entry.area = found_area k ram l a.regions vs h l.entry.object entered.object entered.at l.entry.area entry_at.area_is entry_at.there in
      let (x, named) = found_all InImage (λ s. is_area l.entry.object l.entry.area s.thing) (stood_in f.owner) f.spot (all_at (λ r. AllByRecursion InImage (stood_in r)) rs f.place f.owner all_behind f.at) f.there in
      let is : f.spot.thing ≡ AnArea (item_of l.entry.object entered.object.«module» l.entry.area entry_at.area_is) = entry_thing f.place f.owner f.at f.spot f.there in
      let size : size_of f.spot.thing ≡ entry_at.area_is.size = ap size_of is in
      let inside = entry_at.inside in
      let at : entry_base ≡ f.spot.address =
      full_base k ram l a.regions vs h l.entry.object entered.object entered.at l.entry.area entry_at.area_is entry_at.there (omega (arith, inside)) in
      let below = x.0 in
      (low_by at x.1 is, omega (arith, size, at, below))
    where
      entry_thing : (n : ℕ) (r : Planned) → slice_get (regions_of plan) n ≡ Some r → (s : Stood) → find (λ z. is_area l.entry.object l.entry.area z.thing) (stood_in r) ≡ Some s
          → s.thing ≡ AnArea (item_of l.entry.object entered.object.«module» l.entry.area entry_at.area_is)
      entry_thing n r at s found =
          let (w, named) = found_all (IsSomewhere k ram l a.regions vs h r) (λ z. is_area l.entry.object l.entry.area z.thing) (stood_in r) s (somewhere k ram l a.regions vs h n r at) found in
          is_item k ram l a.regions vs h l.entry.object entered.object entered.at l.entry.area entry_at.area_is entry_at.there s.thing named (thing_of k ram l a.regions vs h r s w)

      low_by : {s : Stood} {i : Item} → entry_base ≡ s.address → (base + 128 ≤ s.address) ⊎ (s.thing ≡ Header) → s.thing ≡ AnArea i → base + 128 ≤ entry_base
      low_by at (inl low) is = omega (arith, at, low)
      low_by at (inr e) is = absurd cc

  -- its address doesn't wrap
  pub entry_is : target_in p home ≡ entry_base + l.entry.offset
  entry_is =
      let bounds = entry_bounds in
      let inside = entry_at.inside in
      let fits = room in
      let small : (entry_base + l.entry.offset) % 2 ^ 32 ≡ entry_base + l.entry.offset = omega (arith, bounds.1, inside, fits) in
      ap (λ n. (n + l.entry.offset) % 2 ^ 32) ((has_places plan).bases l.entry.object l.entry.area) ∙ small

  pub entry_small : entry_base + l.entry.offset < 2 ^ 32
  entry_small =
      let bounds = entry_bounds in
      let inside = entry_at.inside in
      let fits = room in
      omega (arith, bounds.1, inside, fits)

  pub entry_low : base ≤ entry_base
  entry_low = let bounds = entry_bounds in omega (arith, bounds.0)

  pub entry_even : (entry_base + l.entry.offset) % 2 ≡ 0
  entry_even = let first = entry_aligned in let second = entry_at.even in omega (arith, first, second)

  -- ---- its veneer

  module _ (thumb : l.entry.thumb ≡ true) where
    abbrev its_veneer : Veneer
    its_veneer = veneer_to 0 home true

    is_planned : IsIn vs its_veneer
    is_planned =
        let by_header : needed_by_header true l.entry ≡ its_veneer ∷ [] = rw thumb refl in
        let there : IsIn (needed_by_header true l.entry) its_veneer = subst (λ (ws : List Veneer). IsIn ws its_veneer) (sym by_header) (0, refl) in
        subst (λ (ws : List Veneer). IsIn ws its_veneer) (sym needed) ((veneers_law (link_of l) a.regions true).each its_veneer (inl there))

    in_region : IsIn ro.things (AVeneer home true)
    in_region =
        let mapped : IsIn c.veneers (region_veneer its_veneer) = in_map region_veneer vs its_veneer is_planned in
        let kept : IsIn (filter (λ v. v.region == 0) c.veneers) (region_veneer its_veneer) = in_filter (λ v. v.region == 0) c.veneers (region_veneer its_veneer) refl mapped in
        let of_region : IsIn (veneers_in c 0) (AVeneer home true) = in_map (λ v. AVeneer v.target v.thumb) (filter (λ v. v.region == 0) c.veneers) (region_veneer its_veneer) kept in
        let areas : List Thing = map AnArea (filter (λ i. not (is_zero_initialised i)) (areas_in c 0)) in
        in_back (Header ∷ []) (areas ++ (veneers_in c 0 ++ startup_in k 0 0)) (AVeneer home true) (in_back areas (veneers_in c 0 ++ startup_in k 0 0) (AVeneer home true) (in_front (veneers_in c 0) (startup_in k 0 0) (AVeneer home true) of_region))

    pub record IsVeneerPlace : Type 0 where
      pub spot : Stood
      pub place : ℕ
      pub there : slice_get (stood ro.origin ro.base ro.things) place ≡ Some spot
      pub is : spot.thing ≡ AVeneer home true

    pub veneer_place : IsVeneerPlace
    veneer_place = let (s, at, is) = stood_in_place ro.origin ro.base ro.things (AVeneer home true) in_region in record { spot = s; place = at.0; there = at.1; is = is }

    veneer_in : veneers_of_plan (Some ro) home true ≡ Some veneer_place.spot.address
    veneer_in =
        let once : AreOnce vs = subst AreOnce (sym needed) (veneers_law (link_of l) a.regions true).once in
        let apart = things_apart l.objects a.regions vs 0 k 0 ro (shaped k ram l a.regions vs h 0 ro refl) refl once in
        is_first ro apart veneer_place.place veneer_place.spot home true veneer_place.there veneer_place.is

    pub veneer_is : veneers_at p 0 home true ≡ Some veneer_place.spot.address
    veneer_is = veneers_there k c 0 ro refl home true ∙ veneer_in

    veneer_bounds : (base + 128 ≤ veneer_place.spot.address) × (veneer_place.spot.address + 12 ≤ base + length_of ro) × (veneer_place.spot.address % 4 ≡ 0)
    veneer_bounds =
        let ss : List Stood = stood ro.origin ro.base ro.things in
        let zeros : List Stood = stood ro.origin (zero_base_of ro) ro.zeros in
        let there : IsIn (stood_in ro) veneer_place.spot = in_front ss zeros veneer_place.spot (veneer_place.place, veneer_place.there) in
        let x : InImage veneer_place.spot = all_at InImage (stood_in ro) there.0 veneer_place.spot first_behind there.1 in
        let size : size_of veneer_place.spot.thing ≡ 12 = ap size_of veneer_place.is in
        let within = all_at (IsWithin (λ t. Unit {0}) ro.base (zero_base_of ro)) ss veneer_place.place veneer_place.spot
        (stood_within (λ t. Unit {0}) ro.origin ro.base ro.things ro.base (zero_base_of ro) (omega arith) (omega arith) (all_things ro.things)) veneer_place.there in
        let below = within.below in
        (low_by x.1 veneer_place.is, omega (arith, size, below), all_at (λ s. s.address % 4 ≡ 0) (stood_in ro) there.0 veneer_place.spot (aligned k ram l a.regions vs h 0 ro refl) there.1)
      where
        low_by : {s : Stood} → (base + 128 ≤ s.address) ⊎ (s.thing ≡ Header) → s.thing ≡ AVeneer home true → base + 128 ≤ s.address
        low_by (inl low) is = low
        low_by (inr e) is = absurd cc

    pub called_veneer : called l.entry.thumb l p ≡ veneer_place.spot.address
    called_veneer = ap (λ (b : Bool). called b l p) thumb ∙ ap (λ (o : Option ℕ). unwrap_or o 0) veneer_is

    pub veneer_inside : called l.entry.thumb l p + 12 ≤ base + parts_size plan
    veneer_inside = let bounds = veneer_bounds in let is = called_veneer in omega (arith, bounds.1, is)

    veneer_called : IsCalled base end (called l.entry.thumb l p)
    veneer_called =
        let bounds = veneer_bounds in
        let is = called_veneer in
        record { whole = ap (λ n. n % 4) is ∙ bounds.2; low = omega (arith, bounds.0, is); high = omega (arith, bounds.1, is) }

  pub called_entry : l.entry.thumb ≡ false → called l.entry.thumb l p ≡ entry_base + l.entry.offset
  called_entry arm = ap (λ (b : Bool). called b l p) arm ∙ entry_is

  entry_called : l.entry.thumb ≡ false → IsCalled base end (called l.entry.thumb l p)
  entry_called arm =
      let bounds = entry_bounds in
      let is = called_entry arm in
      let inside = entry_at.inside in
      let words = entry_at.words in
      let whole = entry_at.whole arm in
      let first = entry_aligned in
      record { whole = omega (arith, is, first, whole); low = omega (arith, bounds.0, is); high = omega (arith, bounds.1, is, inside, words, whole) }

  pub is_called : IsCalled base end (called l.entry.thumb l p)
  is_called = go l.entry.thumb refl
    where
      go : (b : Bool) → l.entry.thumb ≡ b → IsCalled base end (called l.entry.thumb l p)
      go true e = veneer_called e
      go false e = entry_called e

  -- the header calls what the plan says
  pub calls : call_by l.entry.thumb plan l ≡ Some (called l.entry.thumb l p)
  calls = go l.entry.thumb refl
    where
      go : (b : Bool) → l.entry.thumb ≡ b → call_by l.entry.thumb plan l ≡ Some (called l.entry.thumb l p)
      go false e = ap (λ (b : Bool). call_by b plan l) e ∙ ap Some (sym (called_entry e))
      go true e = ap (λ (b : Bool). call_by b plan l) e ∙ veneer_in e ∙ ap Some (sym (called_veneer e))
