-- The areas of a link that is made are patched by its plan, and its veneers lead to their targets.
use Rattle.std.proofs.Common.{◌≡◌, inl, inr, ℕ, zero, suc, ◌+◌, ◌%◌, ◌^◌, ◌<◌, ◌≤◌, Bool, true, false, cond, ◌&&◌, ◌==◌, List, [], ◌∷◌, ◌++◌, length, refl, sym, ap, subst, ◌∙◌, arith, leb-true, Option, Some, None}
use Rattle.std.specs.Prelude.{slice_get, nat_le, IsSomeAnd}
use Rattle.std.specs.List.{filter_map, flat_map, find, AllByRecursion}
use Rattle.std.specs.Option.{option_map, option_map_or}
use Rattle.std.proofs.lemmas.Option.{slice_get-map}
use Rattle.base_lemmas.proofs.BaseLemmas.{all_front, both_true, came_through, same}
use Rattle.sdt_word.specs.Numbers.{bit}
use Rattle.sdt_word.specs.declared.ranges.Range32.{Range32}
use Rattle.sdt_fault.specs.declared.refusal.Refusal.{Refusal}
use Rattle.aof_object.specs.declared.areas.AreaHead.{AreaHead}
use Rattle.aof_object.specs.declared.records.Area.{Area}
use Rattle.aof_object.specs.declared.records.Object.{Object}
use Rattle.aof_object.specs.declared.records.Reloc.{Reloc}
use Rattle.aof_object.specs.Checks.{left_over}
use Rattle.aof_object.specs.Validity.{IsValid, IsEntered, head_of, heads}
use Rattle.patch_model.specs.Fields.{Kind as FieldKind, Byte, Half, Word, Branch, Home, Values, field_of, kind_of, directives, size_of, number_in}
use Rattle.patch_model.specs.Patched.{Way, Directly, ByVeneer, way_of, is_branch, AreaPatched}
use Rattle.patch_model.specs.Reaches.{HasVeneer}
use Rattle.patch_model.proofs.BranchLemmas.{branch_tested}
use Rattle.place_model.specs.declared.scatter.Kind.{Kind}
use Rattle.place_model.specs.Plans.{Planned, Plan, regions_of, table_words, zero_base_of, boot_address}
use Rattle.place_model.specs.Things.{Thing, Header, AnArea, AVeneer, Startup, Stood, stood}
use Rattle.place_model.proofs.ListLemmas.{all_at, all_indexed, none_given}
use Rattle.place_model.proofs.SpanLemmas.{map_none}
use Rattle.link_model.specs.declared.placing.AreaName.{AreaName}
use Rattle.link_model.specs.declared.placing.Assigned.{Assigned}
use Rattle.link_model.specs.declared.placing.PlacedArea.{PlacedArea}
use Rattle.link_model.specs.declared.placing.Placement.{Placement}
use Rattle.link_model.specs.declared.placing.Veneer.{Veneer}
use Rattle.link_model.specs.declared.selection.Linked.{Linked}
use Rattle.link_model.specs.declared.selection.LinkedEntry.{LinkedEntry}
use Rattle.link_model.specs.declared.selection.Named.{Named}
use Rattle.link_model.specs.Members.{Link, link_of, objects_in}
use Rattle.link_model.specs.RegionValues.{area_of, region_number}
use Rattle.link_model.specs.Values.{values_of}
use Rattle.link_model.specs.Veneers.{is_alone, has_branch, veneer_by, values_apart, needed_as, needed_by, needed_by_header, IsIn, BranchNeeds, IsNeeded}
use Rattle.link_model.proofs.NeedLemmas.{veneers_law}
use Rattle.link_model.proofs.WayLemmas.{ways_law}
use Rattle.link_items.specs.LinkedItems.{has_header, contents_of}
use Rattle.link_values.specs.Placed.{is_area, base_in, reduced_values}
use Rattle.link_values.specs.Placed as placed
use Rattle.link_apply.specs.Flaws.{flaw_of, refusal_of, told, refusals_in, refusals_at}
use Rattle.link_apply.specs.Laws.{AreBytes, AreSound}
use Rattle.link_apply.specs.PatchedBytes.{patched_bytes, veneer_bytes}
use Rattle.link_apply.specs.Placed.{veneers_at, target_in}
use Rattle.link_apply.proofs.AreaLemmas.{patched_law}
use Rattle.link_apply.proofs.FieldLemmas.{veneer_law}
use Rattle.link_apply.proofs.ListLemmas.{Found, found}
use Rattle.link_laws.specs.Placing.{bases_of, link_plan, IsPlacedLink, values_in, IsApplied, IsVeneerApplied}
use Rattle.link_laws.specs.Joins.{IsMade, PlacesOf, MadeHasPlaces, given_in, MadeIsApplied}
use Rattle.link_laws.proofs.PlacedLemmas.{IsFound, shaped, aligned, found as found_area, objects_are_placed}
use Rattle.link_laws.proofs.Made.PlacedLemmas.{is_placement, are_needed, made_is_placed}
use Rattle.link_laws.proofs.AppliedAt.{is_found as placed_there, base_there, applied_at}
use Rattle.link_laws.proofs.ReducedLemmas.{way_reduced}
use Rattle.link_laws.proofs.Made.AddressLemmas.{placed_as, veneers_there, has_places}
use Rattle.link_laws.proofs.Made.RegionLemmas.{found_there}
use Rattle.link_laws.proofs.Made.VeneerLemmas.{veneer_to, AreOnce, IsPlanned, things_planned, things_apart, all_stood, is_first}

-- ---- lists of which nothing is first

is_empty : {X : Type 0} (xs : List X) → slice_get xs 0 ≡ None → xs ≡ []
is_empty [] h = refl
is_empty (x ∷ xs) h = absurd cc

both_empty : {X : Type 0} (xs ys : List X) → xs ++ ys ≡ [] → (xs ≡ []) × (ys ≡ [])
both_empty [] ys h = (refl, h)
both_empty (x ∷ xs) ys h = absurd cc

none_of_any : {X Y : Type 0} (f : X → List Y) (xs : List X) (i : ℕ) (x : X) → flat_map f xs ≡ [] → slice_get xs i ≡ Some x → f x ≡ []
none_of_any f [] i x h at = absurd cc
none_of_any f (y ∷ ys) zero x h at = let is : y ≡ x = cc in ap f (sym is) ∙ (both_empty (f y) (flat_map f ys) h).0
none_of_any f (y ∷ ys) (suc i) x h at = none_of_any f ys i x (both_empty (f y) (flat_map f ys) h).1 at

-- ---- an area of a name

-- the object and the area
pub record IsNamed (os : List (Named Object)) (name : AreaName) (a : Area) : Type 0 where
  pub object : Named Object
  pub at : slice_get os name.object ≡ Some object
  pub there : slice_get object.value.areas name.area ≡ Some a

pub is_named : (os : List (Named Object)) (name : AreaName) (a : Area) → area_of (objects_in os) name ≡ Some a → IsNamed os name a
is_named os name a h =
    let (value, at, there) = came_through (λ (o : Object). slice_get o.areas name.area) (slice_get (objects_in os) name.object) a h in
    go (slice_get os name.object) refl (sym (slice_get-map (λ (o : Named Object). o.value) os name.object) ∙ at) there
  where
    go : {value : Object} (o : Option (Named Object)) → slice_get os name.object ≡ o → option_map (λ (z : Named Object). z.value) o ≡ Some value → slice_get value.areas name.area ≡ Some a → IsNamed os name a
    go None e f there = absurd cc
    go {value} (Some o) e f there = let is : o.value ≡ value = cc in record { object = o; at = e; there = ap (λ (z : Object). slice_get z.areas name.area) is ∙ there }

-- ---- what a branch needs

-- the relocation is a branch that has its field alone
pub record IsBranchOf (a : Area) (r : Reloc) : Type 0 where
  pub thumb : Bool
  pub kind : kind_of r ≡ Branch thumb
  pub alone : is_alone a.relocs r ≡ true
  pub branch : has_branch thumb a.bytes (field_of r) ≡ true

pub is_needing : (l : Link) (region : ℕ) (name : AreaName) (a : Area) (r : Reloc) (v : Veneer) → needed_by l region name a r ≡ Some v → IsBranchOf a r
is_needing l region name a r v h = go (kind_of r) refl h
  where
    go : (kind : FieldKind) → kind_of r ≡ kind → needed_as kind l region name.object a r ≡ Some v → IsBranchOf a r
    go Byte e n = absurd cc
    go Half e n = absurd cc
    go Word e n = absurd cc
    go (Branch thumb) e n = by (is_alone a.relocs r && has_branch thumb a.bytes (field_of r)) refl n
      where
        by : (b : Bool) → (is_alone a.relocs r && has_branch thumb a.bytes (field_of r)) ≡ b
            → cond b (veneer_by region (way_of 0 (values_apart l name.object) a.bytes (field_of r) thumb (directives a.relocs (field_of r)))) None ≡ Some v → IsBranchOf a r
        by true t some = let (alone, branch) = both_true (is_alone a.relocs r) (has_branch thumb a.bytes (field_of r)) t in record { thumb = thumb; kind = e; alone = alone; branch = branch }
        by false t some = absurd cc

-- the way by which it leads
way_is : (region : ℕ) (way : Way) (n : ℕ) (target : Home) (state : Bool) → veneer_by region way ≡ Some (veneer_to n target state) → way ≡ ByVeneer target state
way_is region Directly n target state h = absurd cc
way_is region (ByVeneer home thumb) n target state h =
    let is : veneer_to region home thumb ≡ veneer_to n target state = same (veneer_to region home thumb) (veneer_to n target state) h in
    let object : home.object ≡ target.object = ap (λ (v : Veneer). v.area.object) is in
    let area : home.area ≡ target.area = ap (λ (v : Veneer). v.area.area) is in
    let offset : home.offset ≡ target.offset = ap (λ (v : Veneer). v.offset) is in
    let thumb_is : thumb ≡ state = ap (λ (v : Veneer). v.thumb) is in
    λ i. ByVeneer (record { object = object i; area = area i; offset = offset i }) (thumb_is i)

-- ---- what a header needs

-- the veneer of the entry
header_veneer : (header : Bool) (e : LinkedEntry) (n : ℕ) (target : Home) (state : Bool) → IsIn (needed_by_header header e) (veneer_to n target state)
    → (state ≡ true) × (target ≡ record { object = e.object; area = e.area; offset = e.offset })
header_veneer header e n target state (i, at) = go (header && e.thumb) i at
  where
    go : (b : Bool) (i : ℕ)
        → slice_get (cond b ((record { region = 0; area = record { object = e.object; area = e.area }; offset = e.offset; thumb = true }) ∷ []) []) i ≡ Some (veneer_to n target state)
        → (state ≡ true) × (target ≡ record { object = e.object; area = e.area; offset = e.offset })
    go true zero h =
        let is : veneer_to 0 (record { object = e.object; area = e.area; offset = e.offset }) true ≡ veneer_to n target state = same _ (veneer_to n target state) h in
        let object : target.object ≡ e.object = sym (ap (λ (v : Veneer). v.area.object) is) in
        let area : target.area ≡ e.area = sym (ap (λ (v : Veneer). v.area.area) is) in
        let offset : target.offset ≡ e.offset = sym (ap (λ (v : Veneer). v.offset) is) in
        (sym (ap (λ (v : Veneer). v.thumb) is), λ j. record { object = object j; area = area j; offset = offset j })
    go true (suc i) h = absurd cc
    go false i h = absurd cc

even_left : (attributes offset : ℕ) → left_over attributes offset ≡ 0 → offset % 2 ≡ 0
even_left attributes offset h = go (bit attributes 20 == 1) h
  where
    go : (b : Bool) → cond b (offset % 2) (offset % 4) ≡ 0 → offset % 2 ≡ 0
    go true e = e
    go false e = omega (arith, e)

module _ (k : Kind) (ram : Option (List Range32)) (l : Linked) (a : Assigned) (vs : List Veneer) (p : Placement) (h : IsMade k ram l a vs p) where
  abbrev os : List (Named Object)
  os = l.objects

  abbrev plan : Plan
  plan = link_plan k l a.regions vs

  abbrev numbers : List ℕ → Option ℕ
  numbers = region_number (objects_in l.objects) p

  pub is_placed : IsPlacedLink k ram l a.regions vs
  is_placed = made_is_placed k ram l a vs p h

  pub places : PlacesOf p plan
  places = subst (λ (q : Placement). PlacesOf q plan) (sym (is_placement k ram l a vs p h)) (has_places plan)

  same_bases : base_in p ≡ bases_of plan
  same_bases = λ i object area. places.bases object area i

  same_values : (own : ℕ) → placed.values_in (link_of l) p own ≡ values_in plan l numbers own
  same_values own = λ i. reduced_values (places.boot i) (values_of (link_of l) numbers (same_bases i) own)

  same_target : (target : Home) → target_in p target ≡ (bases_of plan target.object target.area + target.offset) % 2 ^ 32
  same_target target = ap (λ (n : ℕ). (n + target.offset) % 2 ^ 32) (places.bases target.object target.area)

  -- ---- one area

  module _ (own : ℕ) (o : Named Object) (here : slice_get l.objects own ≡ Some o) (area : ℕ) (x : Area) (there : slice_get o.value.areas area ≡ Some x) where
    abbrev place : IsFound (link_plan k l a.regions vs) own area
    place = found_area k ram l a.regions vs is_placed own o here area x there

    abbrev base : ℕ
    base = place.spot.address

    abbrev values : Values
    values = values_in plan l numbers own

    abbrev spot : PlacedArea
    spot = placed_as own area place.owner.number base

    is_found : find (is_area own area) p.areas ≡ Some spot
    is_found =
        ap (λ (q : Placement). find (is_area own area) q.areas) (is_placement k ram l a vs p h)
        ∙ placed_there k ram l a.regions vs is_placed own o here area x there

    -- no relocation has a flaw
    pub sound_area : AreSound p values place.owner.number base area x
    sound_area i r at =
        let f : Found (is_area own area) p.areas spot = found (is_area own area) p.areas spot is_found in
        let none : refusals_at l p spot (slice_get l.objects own) ≡ [] = none_of_any (λ q. refusals_at l p q (slice_get l.objects q.area.object)) p.areas f.number spot (is_empty _ h.sound) f.there in
        let in_object : refusals_in p (placed.values_in (link_of l) p own) spot o (slice_get o.value.areas area) ≡ [] = ap (refusals_at l p spot) (sym here) ∙ none in
        let in_area : filter_map (refusal_of p (placed.values_in (link_of l) p own) spot o x) x.relocs ≡ [] = ap (refusals_in p (placed.values_in (link_of l) p own) spot o) (sym there) ∙ in_object in
        let all = none_given (refusal_of p (placed.values_in (link_of l) p own) spot o x) x.relocs (ap (λ (rs : List Refusal). slice_get rs 0) in_area) in
        let unrefused : refusal_of p (placed.values_in (link_of l) p own) spot o x r ≡ None = all_at (λ q. refusal_of p (placed.values_in (link_of l) p own) spot o x q ≡ None) x.relocs i r all at in
        let flawless : flaw_of p (placed.values_in (link_of l) p own) place.owner.number base area x r ≡ None =
        map_none (told o.name o.value x r) (flaw_of p (placed.values_in (link_of l) p own) place.owner.number base area x r) unrefused in
        ap (λ (z : Values). flaw_of p z place.owner.number base area x r) (sym (same_values own)) ∙ flawless

    pub is_applied : AreBytes x.bytes → IsApplied plan l numbers (given_in (link_of l) p) own area o.value
    is_applied bytes =
        let n : ℕ = place.owner.number in
        let patched : AreaPatched x.relocs x.bytes base values (veneers_at p n) (patched_bytes p values n base x) = patched_law p values n base area x bytes sound_area in
        let as_placed : AreaPatched x.relocs x.bytes base (placed.values_in (link_of l) p own) (veneers_at p n) (patched_bytes p (placed.values_in (link_of l) p own) n base x) =
        subst (λ (z : Values). AreaPatched x.relocs x.bytes base z (veneers_at p n) (patched_bytes p z n base x)) (sym (same_values own)) patched in
        let at : find (is_area own area) p.areas ≡ Some spot = is_found in
        let Goal : Placement → Type 0 = λ q. find (is_area own area) q.areas ≡ Some spot
        → AreaPatched x.relocs x.bytes base (placed.values_in (link_of l) q own) (veneers_at q n) (patched_bytes q (placed.values_in (link_of l) q own) n base x)
        → IsApplied plan l (region_number (objects_in l.objects) q) (given_in (link_of l) q) own area o.value in
        subst Goal (sym (is_placement k ram l a vs p h)) (applied_at k ram l a.regions vs is_placed own o here area x there spot) at as_placed

  -- ---- the entry

  abbrev entry : Home
  entry = record { object = l.entry.object; area = l.entry.area; offset = l.entry.offset }

  abbrev IsEven : AreaHead → Type 0
  IsEven q = (l.entry.offset < q.size) × (left_over q.attributes l.entry.offset ≡ 0)

  even_entry : target_in p entry % 2 ≡ 0
  even_entry =
      let valid : IsValid h.entered.object.value = all_at (λ q. IsValid q.value) l.objects l.entry.object h.entered.object h.valid h.entered.at in
      let entered : IsEntered (heads h.entered.object.value.areas) (Some (record { area = l.entry.area; offset = l.entry.offset })) = subst (IsEntered (heads h.entered.object.value.areas)) h.entered.entry valid.entry in
      go (slice_get h.entered.object.value.areas l.entry.area) refl
      (subst (λ (z : Option AreaHead). IsSomeAnd z IsEven) (slice_get-map head_of h.entered.object.value.areas l.entry.area) entered)
    where
      go : (z : Option Area) → slice_get h.entered.object.value.areas l.entry.area ≡ z → IsSomeAnd (option_map head_of z) IsEven → target_in p entry % 2 ≡ 0
      go None e f = absurd f
      go (Some x) e f =
          let whole : bases_of plan l.entry.object l.entry.area % 4 ≡ 0 = (objects_are_placed k ram l a.regions vs numbers is_placed l.entry.object h.entered.object h.entered.at).aligned l.entry.area x e in
          let even : l.entry.offset % 2 ≡ 0 = even_left x.attributes l.entry.offset f.1 in
          ap (λ (n : ℕ). n % 2) (same_target entry) ∙ omega (arith, whole, even)

  -- ---- one veneer

  -- of a region, which stands at a whole word
  module _ (n : ℕ) (r : Planned) (at : slice_get (regions_of plan) n ≡ Some r) (target : Home) (state : Bool) (v : ℕ) (stands : veneers_at p r.number target state ≡ Some v) (whole : v % 4 ≡ 0) where
    abbrev Applied : Type 0
    Applied = HasVeneer v (target_in p target) state (veneer_bytes v (target_in p target) state)

    for_branch : BranchNeeds (link_of l) a.regions (veneer_to r.number target state) → Applied
    for_branch b =
        let named : IsNamed l.objects b.name b.area = is_named l.objects b.name b.area b.there in
        let own : ℕ = b.name.object in
        let base : ℕ = bases_of plan b.name.object b.name.area in
        let values : Values = values_in plan l numbers b.name.object in
        let sound = sound_area b.name.object named.object named.at b.name.area b.area named.there in
        let number = found_there k ram l a.regions vs is_placed b.name.object named.object named.at b.name.area b.area named.there r.number b.areas b.region b.assigned in
        let is : IsBranchOf b.area b.reloc = is_needing (link_of l) r.number b.name b.area b.reloc (veneer_to r.number target state) b.needs in
        let (room, branch) = both_true (nat_le ((field_of b.reloc).place + size_of (field_of b.reloc).kind) (length b.area.bytes)) (is_branch is.thumb (number_in b.area.bytes (field_of b.reloc))) is.branch in
        let fits : (field_of b.reloc).place + size_of (kind_of b.reloc) ≤ length b.area.bytes = leb-true ((field_of b.reloc).place + size_of (kind_of b.reloc)) (length b.area.bytes) room in
        let within : (field_of b.reloc).place + 4 ≤ length b.area.bytes = subst (λ (z : FieldKind). (field_of b.reloc).place + size_of z ≤ length b.area.bytes) is.kind fits in
        let address : base ≡ (found_area k ram l a.regions vs is_placed b.name.object named.object named.at b.name.area b.area named.there).spot.address =
        base_there k ram l a.regions vs is_placed b.name.object named.object named.at b.name.area b.area named.there (omega (arith, within)) in
        let here : AreSound p values r.number base b.name.area b.area =
        subst (λ (x : ℕ). AreSound p values r.number x b.name.area b.area) (sym address)
        (subst (λ (m : ℕ). AreSound p values m (found_area k ram l a.regions vs is_placed b.name.object named.object named.at b.name.area b.area named.there).spot.address b.name.area b.area) number sound) in
        let law = ways_law (link_of l) numbers (bases_of plan) r.number b.name b.area b.reloc is.thumb b.relocates is.kind is.alone within (branch_tested is.thumb (number_in b.area.bytes (field_of b.reloc)) branch) in
        let kept = way_reduced (boot_address plan) base (values_of (link_of l) numbers (bases_of plan) b.name.object) b.area is.thumb b.reloc b.relocates is.kind is.alone in
        let way = way_is r.number (way_of base values b.area.bytes (field_of b.reloc) is.thumb (directives b.area.relocs (field_of b.reloc))) r.number target state (sym (law ∙ ap (veneer_by r.number) kept) ∙ b.needs) in
        veneer_law p values r.number base b.name.area b.area target state v (record {
          reloc = b.reloc;
          thumb = is.thumb;
          branch = is.kind;
          sound = here b.relocates.0 b.reloc b.relocates.1;
          way = way;
          stands = stands;
          whole = whole;
        })

    for_header : IsIn (needed_by_header (has_header k) l.entry) (veneer_to r.number target state) → Applied
    for_header i =
        let (is_thumb, is_entry) = header_veneer (has_header k) l.entry r.number target state i in
        let even : target_in p target % 2 ≡ 0 = ap (λ (z : Home). target_in p z % 2) is_entry ∙ even_entry in
        let thumb : HasVeneer v (target_in p target) true (veneer_bytes v (target_in p target) true) = record { even = even; contents = refl } in
        subst (λ (b : Bool). HasVeneer v (target_in p target) b (veneer_bytes v (target_in p target) b)) (sym is_thumb) thumb

    for_need : IsNeeded (link_of l) a.regions (has_header k) (veneer_to r.number target state) → Applied
    for_need (inl i) = for_header i
    for_need (inr b) = for_branch b

    pub leads_there : IsIn vs (veneer_to r.number target state) → IsVeneerApplied plan (given_in (link_of l) p) r v (AVeneer target state)
    leads_there planned =
        let needed = (veneers_law (link_of l) a.regions (has_header k)).only (veneer_to r.number target state) (subst (λ (ws : List Veneer). IsIn ws (veneer_to r.number target state)) (are_needed k ram l a vs p h) planned) in
        let given : (given_in (link_of l) p).veneer r.number target state ≡ veneer_bytes v (target_in p target) state = ap (λ (z : Option ℕ). option_map_or (λ m. veneer_bytes m (target_in p target) state) z []) stands in
        let own : HasVeneer v (target_in p target) state ((given_in (link_of l) p).veneer r.number target state) = subst (HasVeneer v (target_in p target) state) (sym given) (for_need needed) in
        subst (λ (m : ℕ). HasVeneer v m state ((given_in (link_of l) p).veneer r.number target state)) (same_target target) own

  -- ---- all of them

  once : AreOnce vs
  once = subst AreOnce (sym (are_needed k ram l a vs p h)) (veneers_law (link_of l) a.regions (has_header k)).once

  region_applied : (n : ℕ) (r : Planned) → slice_get (regions_of plan) n ≡ Some r
      → AllByRecursion (λ s. IsVeneerApplied plan (given_in (link_of l) p) r s.address s.thing) (stood r.origin r.base r.things)
  region_applied n r at =
      let things : List Stood = stood r.origin r.base r.things in
      let shape = shaped k ram l a.regions vs is_placed n r at in
      let apart = things_apart l.objects a.regions vs r.number k (table_words k (contents_of l.objects a.regions vs)) r shape refl once in
      let needed : AllByRecursion (λ s. IsPlanned l.objects a.regions vs r.number s.thing) things =
      all_stood (IsPlanned l.objects a.regions vs r.number) r.origin r.base r.things (things_planned l.objects a.regions vs r.number k (table_words k (contents_of l.objects a.regions vs)) r shape refl) in
      let whole : AllByRecursion (λ s. s.address % 4 ≡ 0) things = all_front (λ s. s.address % 4 ≡ 0) things (stood r.origin (zero_base_of r) r.zeros) (aligned k ram l a.regions vs is_placed n r at) in
      all_indexed (λ s. IsVeneerApplied plan (given_in (link_of l) p) r s.address s.thing) things
      (λ i s there.
      by s.address s.thing
      (λ target state is.
      ap (λ (q : Placement). veneers_at q r.number target state) (is_placement k ram l a vs p h)
      ∙ veneers_there k (contents_of l.objects a.regions vs) n r at target state
      ∙ is_first r apart i s target state there is)
      (all_at (λ q. IsPlanned l.objects a.regions vs r.number q.thing) things i s needed there)
      (all_at (λ q. q.address % 4 ≡ 0) things i s whole there))
    where
      by : (v : ℕ) (t : Thing) → ((target : Home) (state : Bool) → t ≡ AVeneer target state → veneers_at p r.number target state ≡ Some v)
          → IsPlanned l.objects a.regions vs r.number t → v % 4 ≡ 0 → IsVeneerApplied plan (given_in (link_of l) p) r v t
      by v Header first planned whole = tt
      by v (AnArea i) first planned whole = tt
      by v (Startup words) first planned whole = tt
      by v (AVeneer target state) first planned whole = leads_there n r at target state v (first target state refl) whole planned

pub made_has_places : MadeHasPlaces
made_has_places k ram l a vs p h = places k ram l a vs p h

pub made_is_applied : MadeIsApplied
made_is_applied k ram l a vs p h = record {
  areas = λ own area o x here there unmarked. is_applied k ram l a vs p h own o here area x there (bytes own area o x here there);
  veneers = all_indexed (λ r. AllByRecursion (λ s. IsVeneerApplied (link_plan k l a.regions vs) (given_in (link_of l) p) r s.address s.thing) (stood r.origin r.base r.things)) (regions_of (link_plan k l a.regions vs)) (region_applied k ram l a vs p h);
}
  where
    bytes : (own area : ℕ) (o : Named Object) (x : Area) → slice_get l.objects own ≡ Some o → slice_get o.value.areas area ≡ Some x → AreBytes x.bytes
    bytes own area o x here there = all_at (λ q. AreBytes q.bytes) o.value.areas area x (all_at (λ q. AllByRecursion (λ z. AreBytes z.bytes) q.value.areas) l.objects own o h.bytes here) there
