-- The areas of linked objects where the image is moved.
use Rattle.std.proofs.Common.{◌≡◌, ℕ, zero, suc, ◌+◌, ◌-◌, ◌%◌, ◌^◌, ◌<◌, ◌≤◌, Bool, true, false, not, ◌&&◌, ◌||◌, ◌==◌, if◌then◌else◌, List, [], ◌∷◌, ◌++◌, length, refl, sym, ap, subst, ◌∙◌, arith, eqb-true, Option, Some, None}
use Rattle.std.specs.Prelude.{slice_get, is_some, IsSomeAnd}
use Rattle.std.specs.List.{filter_map, flat_map, find, list_any, AllByRecursion}
use Rattle.std.specs.Option.{option_map, option_and_then}
use Rattle.std.proofs.lemmas.Bool.{or_parts, ltb-false}
use Rattle.std.proofs.lemmas.Option.{slice_get-map}
use Rattle.base_lemmas.proofs.BaseLemmas.{both_true, came_through, same}
use Rattle.sdt_word.specs.Numbers.{bit}
use Rattle.sdt_fault.specs.declared.refusal.Refusal.TheVariants.{NotRelocatable}
use Rattle.aof_object.specs.declared.areas.AreaHead.{AreaHead}
use Rattle.aof_object.specs.declared.records.Area.{Area}
use Rattle.aof_object.specs.declared.records.Object.{Object}
use Rattle.aof_object.specs.declared.records.Reloc.{Reloc}
use Rattle.aof_object.specs.declared.records.Symbol.{Symbol}
use Rattle.aof_object.specs.Checks.{is_placed, named_by}
use Rattle.aof_object.specs.Objects.{exported}
use Rattle.aof_object.specs.Validity.{IsReloc, IsSymbol, Lives, Holds as HoldsArea, IsValid, head_of, heads}
use Rattle.patch_model.specs.Fields.{Kind, Branch, Values, field_of, kind_of, size_of, number_in, is_by_symbol, number_named, added, taken, directives}
use Rattle.patch_model.specs.Patched.{way_of, is_branch, AreaPatched}
use Rattle.place_model.proofs.ListLemmas.{all_at, all_indexed, none_given}
use Rattle.link_model.specs.declared.placing.PlacedArea.{PlacedArea}
use Rattle.link_model.specs.declared.placing.Placement.{Placement}
use Rattle.link_model.specs.declared.selection.Linked.{Linked}
use Rattle.link_model.specs.declared.selection.Named.{Named}
use Rattle.link_model.specs.Meaning.{symbol_of}
use Rattle.link_model.specs.Members.{link_of, objects_in}
use Rattle.link_model.specs.RegionValues.{area_of}
use Rattle.link_model.specs.Values.{home_area}
use Rattle.link_values.specs.Placed.{is_area, base_in, values_in}
use Rattle.link_apply.specs.declared.flaws.Flaw.TheVariants.{Malformed}
use Rattle.link_apply.specs.Flaws.{overlaps, is_of_itself, is_based, is_outside, has_bad_field, is_only, lacks_veneer, branch_flaw, way_flaw, veneer_of, goal_of, value_flaw, flaw_of, told, refusal_of, refusals_in, refusals_at, apply_refusal}
use Rattle.link_apply.specs.PatchedBytes.{patched_bytes}
use Rattle.link_values.specs.Shifts.{names_moving, gains, losses, word_shifts, image_base, has_bad_shifts, is_bad_branch, is_unmovable, unmovable, unmovable_in, unmovable_from, not_relocatable}
use Rattle.link_apply.specs.Laws.{AreBytes}
use Rattle.link_apply.specs.Placed.{veneers_at}
use Rattle.link_apply.proofs.AreaLemmas.{without_flaw, fit_law}
use Rattle.link_apply.proofs.FieldLemmas.{none_of}
use Rattle.link_apply.proofs.ListLemmas.{any_none}
use Rattle.link_laws.specs.AifJoins.{shift_between, shifted_words}
use Rattle.link_laws.specs.Joins.{area_bytes, area_given}
use Rattle.link_laws.proofs.ListLemmas.{each_at}
use Rattle.link_laws.proofs.ItemLemmas.{area_valid}
use Rattle.link_laws.proofs.Shifts.Sums.{IsMovedIn}
use Rattle.link_laws.proofs.Shifts.Areas.{first_found}
use Rattle.link_laws.proofs.Shifts.Fits.{fit_there}
use Rattle.link_laws.proofs.Shifts.Patched.{MayMove, patched_shifts}
use Rattle.link_laws.proofs.Shifts.Placement.{moved_area, moved_placement, find_area_moves, base_moves}
use Rattle.link_laws.proofs.Shifts.Values.{names_same, image_moves, reloc_moves}

-- ---- lists of which nothing is first

pub nothing : {X : Type 0} (xs : List X) → slice_get xs 0 ≡ None → xs ≡ []
nothing [] h = refl
nothing (x ∷ xs) h = absurd cc

pub both_nothing : {X : Type 0} (xs ys : List X) → xs ++ ys ≡ [] → (xs ≡ []) × (ys ≡ [])
both_nothing [] ys h = (refl, h)
both_nothing (x ∷ xs) ys h = absurd cc

pub nothing_of : {X Y : Type 0} (f : X → List Y) (xs : List X) (i : ℕ) (x : X) → flat_map f xs ≡ [] → slice_get xs i ≡ Some x → f x ≡ []
nothing_of f [] i x h at = absurd cc
nothing_of f (y ∷ ys) zero x h at = let is : y ≡ x = cc in ap f (sym is) ∙ (both_nothing (f y) (flat_map f ys) h).0
nothing_of f (y ∷ ys) (suc i) x h at = nothing_of f ys i x (both_nothing (f y) (flat_map f ys) h).1 at

pub nothing_from : {X Y : Type 0} (f : X → Option Y) (xs : List X) → filter_map f xs ≡ [] → AllByRecursion (λ x. f x ≡ None) xs
nothing_from f xs h = none_given f xs (ap (λ (ys : List _). slice_get ys 0) h)

map_nothing : {X Y : Type 0} (f : X → Y) (o : Option X) → option_map f o ≡ None → o ≡ None
map_nothing f None h = refl
map_nothing f (Some x) h = absurd cc

-- ---- what a relocation may name

some_at : {X : Type 0} (xs : List X) (i : ℕ) → i < length xs → (x : X) × (slice_get xs i ≡ Some x)
some_at [] i lt = absurd (omega arith)
some_at (x ∷ xs) zero lt = (x, refl)
some_at (x ∷ xs) (suc i) lt = some_at xs i (omega (arith, lt))

-- the area in which a symbol of a valid object stands
area_of_symbol : (o : Object) (k : ℕ) (s : Symbol) (area : ℕ) → IsValid o → slice_get o.symbols k ≡ Some s → home_area s ≡ Some area → (a : Area) × (slice_get o.areas area ≡ Some a)
area_of_symbol o k s area valid at home =
    let (front, is) = each_at (λ before x. IsSymbol (exported before) (heads o.areas) x) [] o.symbols k s valid.symbols at in
    by_home (is_placed s.attributes) home is.lives
  where
    by_area : (x : Option AreaHead) → slice_get (heads o.areas) area ≡ x → IsSomeAnd x (λ h. is_placed s.attributes ≡ true → s.value ≤ h.size) → (a : Area) × (slice_get o.areas area ≡ Some a)
    by_area None e h = absurd h
    by_area (Some x) e h = go (slice_get o.areas area) refl (sym (slice_get-map head_of o.areas area) ∙ e)
      where
        go : (z : Option Area) → slice_get o.areas area ≡ z → option_map head_of z ≡ Some x → (a : Area) × (slice_get o.areas area ≡ Some a)
        go None f g = absurd cc
        go (Some a) f g = (a, f)

    by_home : (b : Bool) → (if b then s.area else None) ≡ Some area → Lives (heads o.areas) s.attributes s.value s.area → (a : Area) × (slice_get o.areas area ≡ Some a)
    by_home false e lives = absurd cc
    by_home true e lives =
        let own : IsSomeAnd (slice_get (heads o.areas) area) (λ h. is_placed s.attributes ≡ true → s.value ≤ h.size) = subst (λ (x : Option ℕ). Lives (heads o.areas) s.attributes s.value x) e lives in
        by_area (slice_get (heads o.areas) area) refl own

-- ---- a placement with all areas, which is moved to two bases

pub record IsWholeImage (l : Linked) (p : Placement) : Type 0 where
  pub valid : AllByRecursion (λ o. IsValid o.value) l.objects
  pub boot : p.boot ≡ None
  pub start : (by : ℕ) → image_base (moved_placement by p) ≡ by
  pub there : (own area : ℕ) (o : Named Object) (a : Area) → slice_get l.objects own ≡ Some o → slice_get o.value.areas area ≡ Some a → is_some (find (is_area own area) p.areas) ≡ true
  pub aligned : (own area : ℕ) (o : Named Object) (a : Area) → slice_get l.objects own ≡ Some o → slice_get o.value.areas area ≡ Some a → base_in p own area % 4 ≡ 0

module _ (l : Linked) (p : Placement) (w : IsWholeImage l p) where
  valid_at : (own : ℕ) (o : Named Object) → slice_get l.objects own ≡ Some o → IsValid o.value
  valid_at own o at = all_at (λ q. IsValid q.value) l.objects own o w.valid at

  object_at : (own : ℕ) (x : Object) → slice_get (objects_in l.objects) own ≡ Some x → (o : Named Object) × (slice_get l.objects own ≡ Some o) × (o.value ≡ x)
  object_at own x e = go (slice_get l.objects own) refl (sym (slice_get-map (λ (o : Named Object). o.value) l.objects own) ∙ e)
    where
      go : (z : Option (Named Object)) → slice_get l.objects own ≡ z → option_map (λ (o : Named Object). o.value) z ≡ Some x → (o : Named Object) × (slice_get l.objects own ≡ Some o) × (o.value ≡ x)
      go None f g = absurd cc
      go (Some o) f g = (o, f, same o.value x g)

  -- what stands in an area stands in one that is placed
  pub home_there : (object k : ℕ) (s : Symbol) (area : ℕ) → symbol_of (objects_in l.objects) object k ≡ Some s → home_area s ≡ Some area → is_some (find (is_area object area) p.areas) ≡ true
  home_there object k s area at home =
      let (x, object_is, symbol_is) = came_through (λ (o : Object). slice_get o.symbols k) (slice_get (objects_in l.objects) object) s at in
      let (o, here, is) = object_at object x object_is in
      let own_symbol : slice_get o.value.symbols k ≡ Some s = ap (λ (z : Object). slice_get z.symbols k) is ∙ symbol_is in
      let (a, there) = area_of_symbol o.value k s area (valid_at object o here) own_symbol home in
      w.there object area o a here there

  module _ (by : ℕ) where
    pub homes_move : (object k : ℕ) (s : Symbol) (area : ℕ) → symbol_of (objects_in l.objects) object k ≡ Some s → home_area s ≡ Some area → base_in (moved_placement by p) object area ≡ base_in p object area + by
    homes_move object k s area at home = base_moves by p w.boot object area (home_there object k s area at home)

    pub relocs_move : (own : ℕ) (o : Named Object) → slice_get l.objects own ≡ Some o → (area : ℕ) (a : Area) → slice_get o.value.areas area ≡ Some a
        → AllByRecursion (IsMovedIn (names_moving (link_of l) p own) by (values_in (link_of l) p own) (values_in (link_of l) (moved_placement by p) own)) a.relocs
    relocs_move own o here area a there =
        let holds : HoldsArea (length o.value.areas) (length o.value.symbols) a =
        all_at (HoldsArea (length o.value.areas) (length o.value.symbols)) o.value.areas area a (valid_at own o here).contents there in
        all_indexed (IsMovedIn (names_moving (link_of l) p own) by (values_in (link_of l) p own) (values_in (link_of l) (moved_placement by p) own)) a.relocs
        (λ i r at. reloc_moves by (link_of l) p w.boot homes_move own r (by_area r (all_at (IsReloc (length o.value.areas) (length o.value.symbols)) a.relocs i r holds.relocs at)))
      where
        by_area : (r : Reloc) → IsReloc (length o.value.areas) (length o.value.symbols) r → is_by_symbol r ≡ false → base_in (moved_placement by p) own (number_named r) ≡ base_in p own (number_named r) + by
        by_area r is by_symbol =
            let areas : named_by (length o.value.areas) (length o.value.symbols) r.word ≡ length o.value.areas = ap (λ (b : Bool). if b then length o.value.symbols else length o.value.areas) by_symbol in
            let below = is.index in
            let (b, at) = some_at o.value.areas (number_named r) (omega (arith, below, areas)) in
            base_moves by p w.boot own (number_named r) (w.there own (number_named r) o b here at)

  -- ---- an area of a link that is made at a base, and may be moved

  module _ (base : ℕ) (sound : apply_refusal l (moved_placement base p) ≡ None) (fair : not_relocatable l (moved_placement base p) ≡ None) where
    abbrev q : Placement
    q = moved_placement base p

    module _ (own : ℕ) (o : Named Object) (here : slice_get l.objects own ≡ Some o) (area : ℕ) (a : Area) (there : slice_get o.value.areas area ≡ Some a)
        (at : PlacedArea) (found : find (is_area own area) p.areas ≡ Some at) where
      is_it : (at.area.object ≡ own) × (at.area.area ≡ area)
      is_it =
          let f = first_found (is_area own area) p.areas at found in
          let parts = both_true (at.area.object == own) (at.area.area == area) f.passes in
          (eqb-true at.area.object own parts.0, eqb-true at.area.area area parts.1)

      moved_found : find (is_area own area) q.areas ≡ Some (moved_area base at)
      moved_found = find_area_moves base p own area ∙ ap (option_map (moved_area base)) found

      no_flaw : (i : ℕ) (r : Reloc) → slice_get a.relocs i ≡ Some r → flaw_of q (values_in (link_of l) q own) at.region (at.address + base) area a r ≡ None
      no_flaw i r reloc_at =
          let f = first_found (is_area own area) q.areas (moved_area base at) moved_found in
          let none : refusals_at l q (moved_area base at) (slice_get l.objects at.area.object) ≡ [] =
          nothing_of (λ (placed : PlacedArea). refusals_at l q placed (slice_get l.objects placed.area.object)) q.areas f.number (moved_area base at)
          (nothing (flat_map (λ (placed : PlacedArea). refusals_at l q placed (slice_get l.objects placed.area.object)) q.areas) sound) f.there in
          let object : slice_get l.objects at.area.object ≡ Some o = ap (slice_get l.objects) is_it.0 ∙ here in
          let of_object : refusals_in q (values_in (link_of l) q at.area.object) (moved_area base at) o (slice_get o.value.areas at.area.area) ≡ [] =
          sym (ap (refusals_at l q (moved_area base at)) object) ∙ none in
          let own_area : slice_get o.value.areas at.area.area ≡ Some a = ap (slice_get o.value.areas) is_it.1 ∙ there in
          let of_area : filter_map (refusal_of q (values_in (link_of l) q at.area.object) (moved_area base at) o a) a.relocs ≡ [] =
          sym (ap (refusals_in q (values_in (link_of l) q at.area.object) (moved_area base at) o) own_area) ∙ of_object in
          let each = nothing_from (refusal_of q (values_in (link_of l) q at.area.object) (moved_area base at) o a) a.relocs of_area in
          let of_reloc = map_nothing (told o.name o.value a r) (flaw_of q (values_in (link_of l) q at.area.object) at.region (at.address + base) at.area.area a r)
          (all_at (λ x. refusal_of q (values_in (link_of l) q at.area.object) (moved_area base at) o a x ≡ None) a.relocs i r each reloc_at) in
          ap (λ n. flaw_of q (values_in (link_of l) q n) at.region (at.address + base) area a r) (sym is_it.0)
          ∙ ap (λ n. flaw_of q (values_in (link_of l) q at.area.object) at.region (at.address + base) n a r) (sym is_it.1) ∙ of_reloc

      in_areas : (k : ℕ) (os : List Area) (n : ℕ) → unmovable_in (link_of l) q o own k os ≡ [] → slice_get os n ≡ Some a → (m : ℕ) → m ≡ k + n → filter_map (unmovable (link_of l) q o own m a) a.relocs ≡ []
      in_areas k [] n h at m e = absurd cc
      in_areas k (x ∷ os) zero h at m e =
          let is : x ≡ a = cc in
          let number : m ≡ k = omega (arith, e) in
          ap (λ (z : ℕ). filter_map (unmovable (link_of l) q o own z a) a.relocs) number
          ∙ ap (λ (z : Area). filter_map (unmovable (link_of l) q o own k z) z.relocs) (sym is)
          ∙ (both_nothing (filter_map (unmovable (link_of l) q o own k x) x.relocs) (unmovable_in (link_of l) q o own (suc k) os) h).0
      in_areas k (x ∷ os) (suc n) h at m e =
          in_areas (suc k) os n (both_nothing (filter_map (unmovable (link_of l) q o own k x) x.relocs) (unmovable_in (link_of l) q o own (suc k) os) h).1 at m (omega (arith, e))

      in_objects : (k : ℕ) (os : List (Named Object)) (n : ℕ) → unmovable_from (link_of l) q k os ≡ [] → slice_get os n ≡ Some o → (m : ℕ) → m ≡ k + n → unmovable_in (link_of l) q o m 0 o.value.areas ≡ []
      in_objects k [] n h at m e = absurd cc
      in_objects k (x ∷ os) zero h at m e =
          let is : x ≡ o = cc in
          let number : m ≡ k = omega (arith, e) in
          ap (λ (z : ℕ). unmovable_in (link_of l) q o z 0 o.value.areas) number
          ∙ ap (λ (z : Named Object). unmovable_in (link_of l) q z k 0 z.value.areas) (sym is)
          ∙ (both_nothing (unmovable_in (link_of l) q x k 0 x.value.areas) (unmovable_from (link_of l) q (suc k) os) h).0
      in_objects k (x ∷ os) (suc n) h at m e =
          in_objects (suc k) os n (both_nothing (unmovable_in (link_of l) q x k 0 x.value.areas) (unmovable_from (link_of l) q (suc k) os) h).1 at m (omega (arith, e))

      abbrev offset : Reloc → ℕ
      offset r = base_in q own area + (field_of r).place - image_base q

      movable : (i : ℕ) (r : Reloc) → slice_get a.relocs i ≡ Some r → is_unmovable (names_moving (link_of l) q own) (offset r) a.relocs r ≡ false
      movable i r reloc_at =
          let of_object = in_objects 0 l.objects own (nothing (unmovable_from (link_of l) q 0 l.objects) fair) here own (omega arith) in
          let of_area = in_areas 0 o.value.areas area of_object there area (omega arith) in
          let each = nothing_from (unmovable (link_of l) q o own area a) a.relocs of_area in
          go (is_unmovable (names_moving (link_of l) q own) (offset r) a.relocs r) refl (all_at (λ x. unmovable (link_of l) q o own area a x ≡ None) a.relocs i r each reloc_at)
        where
          go : (b : Bool) → is_unmovable (names_moving (link_of l) q own) (offset r) a.relocs r ≡ b
              → (if b then Some (NotRelocatable o.name a.name (field_of r).place) else None) ≡ None → is_unmovable (names_moving (link_of l) q own) (offset r) a.relocs r ≡ false
          go true e h = absurd cc
          go false e h = e

      way_there : (i : ℕ) (r : Reloc) → slice_get a.relocs i ≡ Some r → (thumb : Bool) → (field_of r).kind ≡ Branch thumb
          → lacks_veneer q at.region (way_of (at.address + base) (values_in (link_of l) q own) a.bytes (field_of r) thumb (directives a.relocs (field_of r))) ≡ false
      way_there i r reloc_at thumb e =
          let values : Values = values_in (link_of l) q own in
          let parts = none_of Malformed (has_bad_field area a r) (value_flaw q values at.region (at.address + base) a r (kind_of r) (directives a.relocs (field_of r))) (no_flaw i r reloc_at) in
          let branch : value_flaw q values at.region (at.address + base) a r (Branch thumb) (directives a.relocs (field_of r)) ≡ None =
          ap (λ (z : Kind). value_flaw q values at.region (at.address + base) a r z (directives a.relocs (field_of r))) (sym e) ∙ parts.1 in
          let way = way_of (at.address + base) values a.bytes (field_of r) thumb (directives a.relocs (field_of r)) in
          let inner = none_of Malformed (not (is_only a.relocs r && is_branch thumb (number_in a.bytes (field_of r))))
          (branch_flaw q values at.region (at.address + base) thumb a.bytes (field_of r) (directives a.relocs (field_of r)) way) branch in
          (none_of Malformed (lacks_veneer q at.region way)
          (way_flaw thumb (at.address + base + (field_of r).place) (number_in a.bytes (field_of r)) (added values (directives a.relocs (field_of r))) (taken (at.address + base) (directives a.relocs (field_of r))) (veneer_of q at.region way) way (goal_of q way))
          inner.1).0

      apart_there : (i : ℕ) (r : Reloc) → slice_get a.relocs i ≡ Some r → (k : ℕ) (y : Reloc) → slice_get a.relocs k ≡ Some y → overlaps (field_of y) (field_of r) ≡ false
      apart_there i r reloc_at =
          let parts = none_of Malformed (has_bad_field area a r) (value_flaw q (values_in (link_of l) q own) at.region (at.address + base) a r (kind_of r) (directives a.relocs (field_of r))) (no_flaw i r reloc_at) in
          let overlapping : Bool = list_any (λ y. overlaps (field_of y) (field_of r)) a.relocs in
          let one = or_parts (is_outside a.bytes (field_of r)) (is_of_itself area r || (is_based r || overlapping)) parts.0 in
          let two = or_parts (is_of_itself area r) (is_based r || overlapping) one.1 in
          let three = or_parts (is_based r) overlapping two.1 in
          any_none (λ y. overlaps (field_of y) (field_of r)) a.relocs three.1

      pub within_there : (i : ℕ) (r : Reloc) → slice_get a.relocs i ≡ Some r → (field_of r).place + size_of (field_of r).kind ≤ length a.bytes
      within_there i r reloc_at =
          let parts = none_of Malformed (has_bad_field area a r) (value_flaw q (values_in (link_of l) q own) at.region (at.address + base) a r (kind_of r) (directives a.relocs (field_of r))) (no_flaw i r reloc_at) in
          let one = or_parts (is_outside a.bytes (field_of r)) (is_of_itself area r || (is_based r || list_any (λ y. overlaps (field_of y) (field_of r)) a.relocs)) parts.0 in
          ltb-false (length a.bytes) ((field_of r).place + size_of (field_of r).kind) one.0

      moving_same : names_moving (link_of l) q own ≡ names_moving (link_of l) p own
      moving_same = λ i r. names_same base (link_of l) p w.boot own r i

      fair_there : (i : ℕ) (r : Reloc) → slice_get a.relocs i ≡ Some r
          → has_bad_shifts (field_of r).kind (offset r) (gains (names_moving (link_of l) p own) (directives a.relocs (field_of r))) (losses (names_moving (link_of l) p own) (directives a.relocs (field_of r))) ≡ false
      fair_there i r reloc_at =
          let shifts = (or_parts (is_bad_branch (field_of r).kind (names_moving (link_of l) q own r))
          (has_bad_shifts (field_of r).kind (offset r) (gains (names_moving (link_of l) q own) (directives a.relocs (field_of r))) (losses (names_moving (link_of l) q own) (directives a.relocs (field_of r))))
          (movable i r reloc_at)).1 in
          ap (λ (m : Reloc → Bool). has_bad_shifts (field_of r).kind (offset r) (gains m (directives a.relocs (field_of r))) (losses m (directives a.relocs (field_of r)))) (sym moving_same) ∙ shifts

      as_there : (r : Reloc) → offset r % 4 ≡ (field_of r).place % 4
      as_there r =
          let stands = base_moves base p w.boot own area (w.there own area o a here there) in
          let aligned = w.aligned own area o a here there in
          let start = w.start base in
          omega (arith, stands, aligned, start)

      module _ (to : ℕ) (low : base ≤ 2 ^ 32) where
        abbrev values : ℕ → Values
        values by = values_in (link_of l) (moved_placement by p) own

        may_move : AllByRecursion (MayMove (names_moving (link_of l) p own) base to p q (moved_placement to p) (values_in (link_of l) p own) (values base) (values to)
            (image_moves base (link_of l) p w.boot (homes_move base) own) (image_moves to (link_of l) p w.boot (homes_move to) own) at.region at.address a low
            (relocs_move base own o here area a there) (relocs_move to own o here area a there)) a.relocs
        may_move = all_indexed _ a.relocs (λ i r reloc_at. record {
          apart = apart_there i r reloc_at;
          way = way_there i r reloc_at;
          offset = offset r;
          as_placed = as_there r;
          fair = fair_there i r reloc_at;
        })

        given_at : (by : ℕ) → area_given (link_of l) (moved_placement by p) own area ≡ patched_bytes (moved_placement by p) (values by) at.region (at.address + by) a
        given_at by =
            let place : find (is_area own area) (moved_placement by p).areas ≡ Some (moved_area by at) = find_area_moves by p own area ∙ ap (option_map (moved_area by)) found in
            let object : slice_get (objects_in l.objects) own ≡ Some o.value = slice_get-map (λ (z : Named Object). z.value) l.objects own ∙ ap (option_map (λ (z : Named Object). z.value)) here in
            let own_area : area_of (objects_in l.objects) (record { object = own; area = area }) ≡ Some a = ap (option_and_then (λ (z : Object). slice_get z.areas area)) object ∙ there in
            ap (λ (z : Option PlacedArea). area_bytes (link_of l) (moved_placement by p) z (area_of (objects_in l.objects) (record { object = own; area = area }))) place
            ∙ ap (area_bytes (link_of l) (moved_placement by p) (Some (moved_area by at))) own_area
            ∙ ap (λ n. patched_bytes (moved_placement by p) (values_in (link_of l) (moved_placement by p) n) at.region (at.address + by) a) is_it.0

        whole_bytes : length a.bytes % 4 ≡ 0
        whole_bytes =
            let valid = valid_at own o here in
            let holds : HoldsArea (length o.value.areas) (length o.value.symbols) a = all_at (HoldsArea (length o.value.areas) (length o.value.symbols)) o.value.areas area a valid.contents there in
            let (names, is) = area_valid o.value area a valid there in
            let size = is.whole_words in
            stored_whole (bit a.attributes 12 == 1) (length a.bytes) a.size holds.bytes size
          where
            stored_whole : (b : Bool) (n size : ℕ) → n ≡ (if b then 0 else size) → size % 4 ≡ 0 → n % 4 ≡ 0
            stored_whole true n size e h = omega (arith, e)
            stored_whole false n size e h = omega (arith, e, h)

        -- there too its fields are patched as its directives ask
        pub area_fits : AreBytes a.bytes → AreaPatched a.relocs a.bytes (at.address + to) (values to) (veneers_at (moved_placement to p) at.region)
            (patched_bytes (moved_placement to p) (values to) at.region (at.address + to) a)
        area_fits bytes =
            fit_law (moved_placement to p) (values to) at.region (at.address + to) area a bytes (λ k r reloc_at.
            fit_there (names_moving (link_of l) p own) base to p q (moved_placement to p) (values_in (link_of l) p own) (values base) (values to)
            (image_moves base (link_of l) p w.boot (homes_move base) own) (image_moves to (link_of l) p w.boot (homes_move to) own) at.region at.address a low
            (relocs_move base own o here area a there) (relocs_move to own o here area a there) area r
            (all_at (MayMove (names_moving (link_of l) p own) base to p q (moved_placement to p) (values_in (link_of l) p own) (values base) (values to)
            (image_moves base (link_of l) p w.boot (homes_move base) own) (image_moves to (link_of l) p w.boot (homes_move to) own) at.region at.address a low
            (relocs_move base own o here area a there) (relocs_move to own o here area a there)) a.relocs k r may_move reloc_at)
            (without_flaw q (values base) at.region (at.address + base) area a k r bytes reloc_at (no_flaw k r reloc_at)))

        -- its bytes are shifted
        pub area_shifts : area_given (link_of l) (moved_placement to p) own area
            ≡ shifted_words (shift_between base to) (word_shifts (names_moving (link_of l) q own) a.relocs) 0 (area_given (link_of l) q own area)
        area_shifts =
            given_at to
            ∙ patched_shifts (names_moving (link_of l) p own) base to p q (moved_placement to p) (values_in (link_of l) p own) (values base) (values to)
            (image_moves base (link_of l) p w.boot (homes_move base) own) (image_moves to (link_of l) p w.boot (homes_move to) own) at.region at.address a low
            (relocs_move base own o here area a there) (relocs_move to own o here area a there) may_move whole_bytes
            ∙ ap (λ (m : Reloc → Bool). shifted_words (shift_between base to) (word_shifts m a.relocs) 0 (patched_bytes q (values base) at.region (at.address + base) a)) (sym moving_same)
            ∙ ap (shifted_words (shift_between base to) (word_shifts (names_moving (link_of l) q own) a.relocs) 0) (sym (given_at base))
