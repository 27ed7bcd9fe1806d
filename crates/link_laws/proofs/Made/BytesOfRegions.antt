-- The bytes of the regions of a link that is made are those of its plan's image: the pieces of a region are its things.
use Rattle.std.proofs.Common.{◌≡◌, ℕ, ◌+◌, ◌-◌, ◌*◌, Bool, true, false, ◌==◌, List, [], ◌∷◌, ◌++◌, length, append_assoc, map, refl, sym, ap, subst, ◌∙◌, arith, eq-eqb, Option, Some, None}
use Rattle.std.specs.Prelude.{slice_get}
use Rattle.std.specs.List.{cons_option, filter, filter_map, flat_map, find, AllByRecursion}
use Rattle.std.specs.Option.{option_map, option_and_then, option_map_or}
use Rattle.std.proofs.lemmas.Grind.{flat_map-append}
use Rattle.std.proofs.lemmas.List.{map-append}
use Rattle.std.proofs.lemmas.List.Elements.{filter_map-append}
use Rattle.std.proofs.lemmas.Option.{slice_get-map}
use Rattle.base_lemmas.proofs.BaseLemmas.{all_front, all_back, came_through, same}
use Rattle.sdt_word.specs.Numbers.{bit}
use Rattle.sdt_word.specs.declared.ranges.Range32.{Range32}
use Rattle.aof_object.specs.declared.records.Area.{Area}
use Rattle.aof_object.specs.declared.records.Object.{Object}
use Rattle.boot_code.specs.Startup.{table_list, zeros}
use Rattle.patch_model.specs.Fields.{Home}
use Rattle.place_model.specs.declared.scatter.Kind.{Kind}
use Rattle.place_model.specs.Items.{Item, is_zero_initialised}
use Rattle.place_model.specs.Things.{Thing, Header, AnArea, AVeneer, Startup, size_of, start_of, extent, Stood, stood}
use Rattle.place_model.specs.Plans.{Contents, RegionVeneer, areas_in, veneers_in, header_in, startup_in, Planned, length_of, zero_base_of, Plan, regions_of, table_words, plan_of, stood_in}
use Rattle.place_model.proofs.ListLemmas.{all_at, all_indexed}
use Rattle.image_model.specs.Regions as image
use Rattle.image_model.specs.Regions.{Given, AreSized, filled}
use Rattle.link_model.specs.declared.placing.AreaName.{AreaName}
use Rattle.link_model.specs.declared.placing.PlacedArea.{PlacedArea}
use Rattle.link_model.specs.declared.placing.PlacedVeneer.{PlacedVeneer}
use Rattle.link_model.specs.declared.placing.Placement.{Placement}
use Rattle.link_model.specs.declared.placing.Veneer.{Veneer}
use Rattle.link_model.specs.declared.selection.Linked.{Linked}
use Rattle.link_model.specs.declared.selection.Named.{Named}
use Rattle.link_model.specs.Members.{link_of, objects_in}
use Rattle.link_model.specs.RegionValues as numbers
use Rattle.link_model.specs.Veneers.{IsIn}
use Rattle.link_items.specs.LinkedItems.{item_of, item_in, name_of, contents_of}
use Rattle.link_place.specs.Placed.{placed_region, area_of, areas_of, veneer_of, veneers_of, placement_of}
use Rattle.link_values.specs.Placed.{is_area, values_in}
use Rattle.link_apply.specs.PatchedBytes.{patched_bytes, veneer_bytes}
use Rattle.link_apply.specs.Placed.{veneers_at, target_in}
use Rattle.link_apply.specs.RegionBytes as linked
use Rattle.link_apply.specs.RegionBytes.{area_piece, area_pieces, veneer_piece, veneer_pieces, entry_of, copy_rows, zero_rows, startup_list, startup_piece}
use Rattle.link_laws.specs.Placing.{link_plan, IsPlacedLink}
use Rattle.link_laws.specs.Joins.{area_bytes, given_in, front_of}
use Rattle.link_laws.proofs.ItemLemmas.{IsOwn}
use Rattle.link_laws.proofs.ListLemmas.{in_front}
use Rattle.link_laws.proofs.RegionLemmas.{IsShaped, header_all, startup_all, IsWithin}
use Rattle.link_laws.proofs.PlacedLemmas.{IsLoaded, IsCleared, loaded, cleared, shaped}
use Rattle.link_laws.proofs.Made.AddressLemmas.{has_places, veneers_there}
use Rattle.link_laws.proofs.Made.VeneerLemmas.{AreOnce, things_apart, is_first}
use Rattle.link_laws.proofs.Made.Once.{found_only, placed_once, all_counted}
use Rattle.link_laws.proofs.Made.Bytes.{in_flat, own_part, number_at, areas_own, veneers_own, stood_append, extent_append, shown, headed_same, own_areas, before, things_are, behind_header, booted, startup_shown, four_parts, first_alone, second_alone, HasNoArea, HasNoVeneer, no_areas, no_veneers, areas_no_veneers, veneers_no_areas}

module _ (k : Kind) (ram : Option (List Range32)) (l : Linked) (regions : List (List AreaName)) (vs : List Veneer) (h : IsPlacedLink k ram l regions vs)
    (once : AreOnce vs) (sized : AreSized (filled (given_in (link_of l) (placement_of (link_plan k l regions vs))) (link_plan k l regions vs) (front_of k)) (link_plan k l regions vs)) where
  abbrev c : Contents
  c = contents_of l.objects regions vs

  abbrev words : ℕ
  words = table_words k c

  abbrev plan : Plan
  plan = plan_of k c

  abbrev rs : List Planned
  rs = regions_of plan

  abbrev p : Placement
  p = placement_of plan

  abbrev g : Given
  g = given_in (link_of l) p

  abbrev held : Planned → Thing → List ℕ
  held = filled g plan (front_of k)

  -- ---- areas

  abbrev placed_area : Planned → Stood → Item → PlacedArea
  placed_area r s i = record { area = record { object = i.object; area = i.area }; region = r.number; address = s.address }

  abbrev piece : PlacedArea → Option linked.Piece
  piece a = area_piece (link_of l) p a (numbers.area_of (objects_in l.objects) a.area)

  area_found : (n : ℕ) (r : Planned) → slice_get rs n ≡ Some r → (s : Stood) → IsIn (stood_in r) s → (i : Item) → s.thing ≡ AnArea i
      → find (is_area i.object i.area) p.areas ≡ Some (placed_area r s i)
  area_found n r at s there i is =
      let own : IsIn (area_of r.number s.thing s.address) (placed_area r s i) = subst (λ (t : Thing). IsIn (area_of r.number t s.address) (placed_area r s i)) (sym is) (0, refl) in
      let e : (i.object == i.object) ≡ true = eq-eqb i.object i.object refl in
      let f : (i.area == i.area) ≡ true = eq-eqb i.area i.area refl in
      let passes : is_area i.object i.area (placed_area r s i) ≡ true = rw e (rw f refl) in
      found_only (is_area i.object i.area) p.areas (placed_area r s i) (placed_once i.object i.area k l.objects c words h.assigned) passes
      (in_flat areas_of rs r (placed_area r s i) (n, at) (in_flat (λ q. area_of r.number q.thing q.address) (stood_in r) s (placed_area r s i) there own))

  abbrev IsPieced : Planned → Stood → Item → Type 0
  IsPieced r s i = piece (placed_area r s i) ≡ Some (s.address, held r (AnArea i))

  area_pieced : (n : ℕ) (r : Planned) → slice_get rs n ≡ Some r → (s : Stood) → IsIn (stood_in r) s → (i : Item) → s.thing ≡ AnArea i
      → IsOwn l.objects i → is_zero_initialised i ≡ false → IsPieced r s i
  area_pieced n r at s there i is own kept =
      let (o, here, it) = came_through (item_in (name_of i)) (slice_get l.objects i.object) i own in
      go o (slice_get o.value.areas i.area) refl here it
    where
      go : (o : Named Object) (x : Option Area) → slice_get o.value.areas i.area ≡ x → slice_get l.objects i.object ≡ Some o
          → option_map (item_of i.object o.«module» i.area) x ≡ Some i → IsPieced r s i
      go o None e here it = absurd cc
      go o (Some a) e here it =
          let whose : item_of i.object o.«module» i.area a ≡ i = same (item_of i.object o.«module» i.area a) i it in
          let object : slice_get (objects_in l.objects) i.object ≡ Some o.value = slice_get-map (λ x. x.value) l.objects i.object ∙ ap (option_map (λ x. x.value)) here in
          let area : numbers.area_of (objects_in l.objects) (name_of i) ≡ Some a = ap (option_and_then (λ x. slice_get x.areas i.area)) object ∙ e in
          let unmarked : bit a.attributes 12 == 1 ≡ false = ap is_zero_initialised whose ∙ kept in
          let bytes : held r (AnArea i) ≡ patched_bytes p (values_in (link_of l) p i.object) r.number s.address a =
          ap (λ (q : Option PlacedArea). area_bytes (link_of l) p q (numbers.area_of (objects_in l.objects) (name_of i))) (area_found n r at s there i is)
          ∙ ap (area_bytes (link_of l) p (Some (placed_area r s i))) area in
          let gives : area_piece (link_of l) p (placed_area r s i) (Some a) ≡ Some (s.address, patched_bytes p (values_in (link_of l) p i.object) r.number s.address a) = rw unmarked refl in
          ap (area_piece (link_of l) p (placed_area r s i)) area ∙ gives ∙ ap (λ (b : List ℕ). Some (s.address, b)) (sym bytes)

  -- ---- veneers

  abbrev placed_veneer : Planned → Stood → Home → Bool → PlacedVeneer
  placed_veneer r s t b = record { veneer = record { region = r.number; area = record { object = t.object; area = t.area }; offset = t.offset; thumb = b }; address = s.address }

  -- ---- each thing

  abbrev IsGood : Planned → Stood → Thing → Type 0
  IsGood r s (AnArea i) = IsPieced r s i
  IsGood r s (AVeneer t b) = veneer_piece p (placed_veneer r s t b) ≡ (s.address, held r (AVeneer t b))
  IsGood r s t = Unit {0}

  all_good : (n : ℕ) (r : Planned) → slice_get rs n ≡ Some r → AllByRecursion (λ s. IsGood r s s.thing) (stood r.origin r.base r.things)
  all_good n r at =
      let ss : List Stood = stood r.origin r.base r.things in
      let apart = things_apart l.objects regions vs r.number k words r (shaped k ram l regions vs h n r at) refl once in
      all_indexed (λ s. IsGood r s s.thing) ss
      (λ i s there.
      let within = all_at (IsWithin (IsLoaded l.objects) r.base (zero_base_of r)) ss i s (loaded k ram l regions vs h n r at) there in
      good s (in_front ss (stood r.origin (zero_base_of r) r.zeros) s (i, there)) (λ t b is. veneers_there k c n r at t b ∙ is_first r apart i s t b there is) s.thing refl within.holds)
    where
      good : (s : Stood) → IsIn (stood_in r) s → ((t : Home) (b : Bool) → s.thing ≡ AVeneer t b → veneers_at p r.number t b ≡ Some s.address)
          → (t : Thing) → s.thing ≡ t → IsLoaded l.objects t → IsGood r s t
      good s there first Header is own = tt
      good s there first (AnArea i) is own = area_pieced n r at s there i is own.0 own.1
      good s there first (AVeneer t b) is own =
          let bytes : held r (AVeneer t b) ≡ veneer_bytes s.address (target_in p t) b =
          ap (λ (o : Option ℕ). option_map_or (λ v. veneer_bytes v (target_in p t) b) o []) (first t b is) in
          ap (λ (x : List ℕ). (s.address, x)) (sym bytes)
      good s there first (Startup w) is own = tt

  sized_region : (n : ℕ) (r : Planned) → slice_get rs n ≡ Some r → AllByRecursion (λ t. length (held r t) ≡ size_of t) r.things
  sized_region n r at = all_at (λ q. AllByRecursion (λ t. length (held q t) ≡ size_of t) q.things) rs n r sized at

  -- ---- the pieces of a region

  abbrev areas_at : Planned → List Stood → List linked.Piece
  areas_at r ss = filter_map piece (flat_map (λ s. area_of r.number s.thing s.address) ss)

  abbrev veneers_of_region : Planned → List Stood → List linked.Piece
  veneers_of_region r ss = map (veneer_piece p) (flat_map (λ s. veneer_of r.number s.thing s.address) ss)

  areas_parts : (r : Planned) (xs ys : List Stood) → areas_at r (xs ++ ys) ≡ areas_at r xs ++ areas_at r ys
  areas_parts r xs ys =
      let f : Stood → List PlacedArea = λ s. area_of r.number s.thing s.address in
      ap (filter_map piece) (flat_map-append f xs ys) ∙ filter_map-append piece (flat_map f xs) (flat_map f ys)

  veneers_parts : (r : Planned) (xs ys : List Stood) → veneers_of_region r (xs ++ ys) ≡ veneers_of_region r xs ++ veneers_of_region r ys
  veneers_parts r xs ys =
      let f : Stood → List PlacedVeneer = λ s. veneer_of r.number s.thing s.address in
      ap (map (veneer_piece p)) (flat_map-append f xs ys) ∙ map-append (veneer_piece p) (flat_map f xs) (flat_map f ys)

  areas_shown : (r : Planned) (at : ℕ) (items : List Item) → AllByRecursion (λ s. IsGood r s s.thing) (stood r.origin at (map AnArea items))
      → areas_at r (stood r.origin at (map AnArea items)) ≡ shown (held r) (stood r.origin at (map AnArea items))
  areas_shown r at [] all = refl
  areas_shown r at (i ∷ items) all =
      let a : ℕ = start_of r.origin at (AnArea i) in
      ap (λ (o : Option linked.Piece). cons_option o (areas_at r (stood r.origin (a + i.size) (map AnArea items)))) all.0
      ∙ ap (λ (ps : List linked.Piece). (a, held r (AnArea i)) ∷ ps) (areas_shown r (a + i.size) items all.1)

  veneers_shown : (r : Planned) (at : ℕ) (ws : List RegionVeneer) → AllByRecursion (λ s. IsGood r s s.thing) (stood r.origin at (map (λ v. AVeneer v.target v.thumb) ws))
      → veneers_of_region r (stood r.origin at (map (λ v. AVeneer v.target v.thumb) ws)) ≡ shown (held r) (stood r.origin at (map (λ v. AVeneer v.target v.thumb) ws))
  veneers_shown r at [] all = refl
  veneers_shown r at (w ∷ ws) all =
      let t : Thing = AVeneer w.target w.thumb in
      let a : ℕ = start_of r.origin at t in
      ap (λ (q : linked.Piece). q ∷ veneers_of_region r (stood r.origin (a + size_of t) (map (λ v. AVeneer v.target v.thumb) ws))) all.0
      ∙ ap (λ (ps : List linked.Piece). (a, held r t) ∷ ps) (veneers_shown r (a + size_of t) ws all.1)

  zeros_gone : (r : Planned) (ss : List Stood) → AllByRecursion (λ s. IsCleared l.objects s.thing) ss → areas_at r ss ≡ []
  zeros_gone r [] all = refl
  zeros_gone r (s ∷ ss) all = go s.thing all.0 (zeros_gone r ss all.1)
    where
      by : (i : Item) → is_zero_initialised i ≡ true → (o : Named Object) (x : Option Area) → slice_get o.value.areas i.area ≡ x → slice_get l.objects i.object ≡ Some o
          → option_map (item_of i.object o.«module» i.area) x ≡ Some i → piece (placed_area r s i) ≡ None
      by i marked o None e here it = absurd cc
      by i marked o (Some a) e here it =
          let whose : item_of i.object o.«module» i.area a ≡ i = same (item_of i.object o.«module» i.area a) i it in
          let object : slice_get (objects_in l.objects) i.object ≡ Some o.value = slice_get-map (λ x. x.value) l.objects i.object ∙ ap (option_map (λ x. x.value)) here in
          let area : numbers.area_of (objects_in l.objects) (name_of i) ≡ Some a = ap (option_and_then (λ x. slice_get x.areas i.area)) object ∙ e in
          let zero_marked : bit a.attributes 12 == 1 ≡ true = ap is_zero_initialised whose ∙ marked in
          let none : area_piece (link_of l) p (placed_area r s i) (Some a) ≡ None = rw zero_marked refl in
          ap (area_piece (link_of l) p (placed_area r s i)) area ∙ none

      go : (t : Thing) → IsCleared l.objects t → areas_at r ss ≡ [] → filter_map piece (area_of r.number t s.address ++ flat_map (λ q. area_of r.number q.thing q.address) ss) ≡ []
      go Header x rest = absurd x
      go (AVeneer t b) x rest = absurd x
      go (Startup w) x rest = absurd x
      go (AnArea i) x rest =
          let (o, here, it) = came_through (item_in (name_of i)) (slice_get l.objects i.object) i x.0 in
          ap (λ (q : Option linked.Piece). cons_option q (areas_at r ss)) (by i x.1 o (slice_get o.value.areas i.area) refl here it) ∙ rest

  -- ---- its bytes

  module _ (n : ℕ) (r : Planned) (at : slice_get rs n ≡ Some r) where
    abbrev areas : List Thing
    areas = map AnArea (own_areas c r.number)

    abbrev behind : ℕ
    behind = behind_header k r

    abbrev head : List Stood
    head = stood r.origin r.base (header_in k r.number)

    abbrev first : List Stood
    first = stood r.origin behind areas

    abbrev second : List Stood
    second = stood r.origin (behind + extent r.origin behind areas) (veneers_in c r.number)

    abbrev third : List Stood
    third = stood r.origin (behind + extent r.origin behind (before c r.number)) (startup_in k r.number words)

    abbrev fourth : List Stood
    fourth = stood r.origin (zero_base_of r) r.zeros

    shape : IsShaped k c words r
    shape = shaped k ram l regions vs h n r at

    stood_before : stood r.origin behind (before c r.number) ≡ first ++ second
    stood_before = stood_append r.origin behind areas (veneers_in c r.number)

    stood_behind : stood r.origin behind (before c r.number ++ startup_in k r.number words) ≡ (first ++ second) ++ third
    stood_behind = stood_append r.origin behind (before c r.number) (startup_in k r.number words) ∙ ap (λ (ss : List Stood). ss ++ third) stood_before

    stood_things : stood r.origin r.base r.things ≡ head ++ ((first ++ second) ++ third)
    stood_things =
        ap (stood r.origin r.base) (things_are k c words r shape)
        ∙ stood_append r.origin r.base (header_in k r.number) (before c r.number ++ startup_in k r.number words) ∙ ap (λ (ss : List Stood). head ++ ss) stood_behind

    stood_all : stood_in r ≡ head ++ (((first ++ second) ++ third) ++ fourth)
    stood_all = ap (λ (ss : List Stood). ss ++ fourth) stood_things ∙ append_assoc head ((first ++ second) ++ third) fourth

    parts_good : AllByRecursion (λ s. IsGood r s s.thing) ((first ++ second) ++ third)
    parts_good = all_back (λ s. IsGood r s s.thing) head ((first ++ second) ++ third) (subst (AllByRecursion (λ s. IsGood r s s.thing)) stood_things (all_good n r at))

    before_good : AllByRecursion (λ s. IsGood r s s.thing) (first ++ second)
    before_good = all_front (λ s. IsGood r s s.thing) (first ++ second) third parts_good

    own_zeros : AllByRecursion (λ s. IsCleared l.objects s.thing) fourth
    own_zeros =
        all_indexed (λ s. IsCleared l.objects s.thing) fourth
        (λ i s there. let within = all_at (IsWithin (IsCleared l.objects) (zero_base_of r) _) fourth i s (cleared k ram l regions vs h n r at) there in within.holds)

    areas_whole : areas_at r (stood_in r) ≡ shown (held r) first
    areas_whole =
        ap (areas_at r) stood_all ∙ areas_parts r head (((first ++ second) ++ third) ++ fourth)
        ∙ ap (λ (ps : List linked.Piece). ps ++ areas_at r (((first ++ second) ++ third) ++ fourth))
        (ap (filter_map piece) (no_areas r.number r.origin r.base (header_in k r.number) (header_all HasNoArea k r.number (λ m a. refl))))
        ∙ four_parts (areas_at r) (areas_parts r) first second third fourth
        ∙ first_alone (shown (held r) first) (areas_at r first) (areas_at r second) (areas_at r third) (areas_at r fourth)
        (areas_shown r behind (own_areas c r.number) (all_front (λ s. IsGood r s s.thing) first second before_good))
        (ap (filter_map piece) (no_areas r.number r.origin (behind + extent r.origin behind areas) (veneers_in c r.number) (veneers_no_areas (filter (λ v. v.region == r.number) c.veneers))))
        (ap (filter_map piece) (no_areas r.number r.origin (behind + extent r.origin behind (before c r.number)) (startup_in k r.number words) (startup_all HasNoArea k r.number words (λ m a. refl))))
        (zeros_gone r fourth own_zeros)

    veneers_whole : veneers_of_region r (stood_in r) ≡ shown (held r) second
    veneers_whole =
        ap (veneers_of_region r) stood_all ∙ veneers_parts r head (((first ++ second) ++ third) ++ fourth)
        ∙ ap (λ (ps : List linked.Piece). ps ++ veneers_of_region r (((first ++ second) ++ third) ++ fourth))
        (ap (map (veneer_piece p)) (no_veneers r.number r.origin r.base (header_in k r.number) (header_all HasNoVeneer k r.number (λ m a. refl))))
        ∙ four_parts (veneers_of_region r) (veneers_parts r) first second third fourth
        ∙ second_alone (shown (held r) second) (veneers_of_region r first) (veneers_of_region r second) (veneers_of_region r third) (veneers_of_region r fourth)
        (ap (map (veneer_piece p)) (no_veneers r.number r.origin behind areas (areas_no_veneers (own_areas c r.number))))
        (veneers_shown r (behind + extent r.origin behind areas) (filter (λ v. v.region == r.number) c.veneers) (all_back (λ s. IsGood r s s.thing) first second before_good))
        (ap (map (veneer_piece p)) (no_veneers r.number r.origin (behind + extent r.origin behind (before c r.number)) (startup_in k r.number words) (startup_all HasNoVeneer k r.number words (λ m a. refl))))
        (ap (map (veneer_piece p)) (no_veneers r.number r.origin (zero_base_of r) r.zeros (subst (AllByRecursion HasNoVeneer) (sym shape.zeros) (areas_no_veneers (filter is_zero_initialised (areas_in c r.number))))))

    startup_whole : (load : ℕ) → startup_piece (link_of l) p r.number (placed_region load r) p.boot ≡ shown (held r) third
    startup_whole load =
        let length = ap (extent r.origin r.base) (things_are k c words r shape) in
        let front = extent_append r.origin r.base (header_in k r.number) (before c r.number ++ startup_in k r.number words) in
        let end = extent_append r.origin behind (before c r.number) (startup_in k r.number words) in
        let a : ℕ = behind + extent r.origin behind (before c r.number) in
        startup_shown k r.number words (link_of l) p r.origin a (placed_region load r) (held r) (booted k c words n r at) (omega (arith, length, front, end)) startup_same
      where
        startup_same : held r (Startup words) ≡ startup_list (link_of l) p ++ zeros (4 * (words - length (table_list (copy_rows p) (zero_rows p) (entry_of (link_of l) p))))
        startup_same = let places = has_places plan in rw (places.copies, places.parts) refl

    pub region_same : (load : ℕ) → linked.region_bytes (link_of l) p r.number (placed_region load r) ≡ image.region_bytes (filled g plan (front_of k)) r
    region_same load =
        let number : r.number ≡ 0 + n = number_at 0 rs (all_counted k c words) n r at in
        let own_area_list : area_pieces (link_of l) p r.number ≡ shown (held r) first =
        ap (filter_map piece) (own_part (λ a. a.region) areas_of areas_own 0 rs (all_counted k c words) n r at r.number number) ∙ areas_whole in
        let own_veneer_list : veneer_pieces p r.number ≡ shown (held r) second =
        ap (map (veneer_piece p)) (own_part (λ v. v.veneer.region) veneers_of veneers_own 0 rs (all_counted k c words) n r at r.number number) ∙ veneers_whole in
        let rest : List Thing = before c r.number ++ startup_in k r.number words in
        let pieces : area_pieces (link_of l) p r.number ++ (veneer_pieces p r.number ++ startup_piece (link_of l) p r.number (placed_region load r) p.boot) ≡ shown (held r) (stood r.origin behind rest) =
        rw (own_area_list, own_veneer_list, startup_whole load)
        (sym (append_assoc (shown (held r) first) (shown (held r) second) (shown (held r) third))
        ∙ ap (λ (ps : List linked.Piece). ps ++ shown (held r) third) (sym (map-append (λ s. (s.address, held r s.thing)) first second))
        ∙ sym (map-append (λ s. (s.address, held r s.thing)) (first ++ second) third)
        ∙ ap (shown (held r)) (sym stood_behind)) in
        let whole : r.things ≡ header_in k r.number ++ rest = things_are k c words r shape in
        let sizes : AllByRecursion (λ t. length (held r t) ≡ size_of t) rest =
        all_back (λ t. length (held r t) ≡ size_of t) (header_in k r.number) rest (subst (AllByRecursion (λ t. length (held r t) ≡ size_of t)) whole (sized_region n r at)) in
        ap (λ (ps : List linked.Piece). linked.filled_up (length_of r) (linked.laid r.base ps)) pieces
        ∙ headed_same (held r) r.origin r.base k r.number rest (length_of r) refl (ap (extent r.origin r.base) whole) sizes
        ∙ ap (image.laid (held r) r.origin r.base) (sym whole)
