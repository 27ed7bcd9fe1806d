-- The bytes of a relocatable AIF at another base.
use Rattle.std.proofs.Common.{◌≡◌, ℕ, ◌+◌, ◌-◌, ◌%◌, ◌^◌, ◌<◌, ◌≤◌, Bool, true, false, not, List, [], ◌∷◌, length, map, refl, sym, ap, subst, ◌∙◌, arith, codes, Option, Some, None}
use Rattle.std.specs.Prelude.{slice_get, sum_by}
use Rattle.std.specs.List.{AllByRecursion}
use Rattle.base_lemmas.proofs.BaseLemmas.{all_weaker}
use Rattle.sdt_word.specs.declared.ranges.Range32.{Range32}
use Rattle.patch_model.specs.Fields.{Home}
use Rattle.place_model.specs.declared.scatter.Kind.{Kind}
use Rattle.place_model.specs.declared.scatter.Kind.TheVariants as kind
use Rattle.place_model.specs.declared.scatter.Choice.TheVariants as choice
use Rattle.place_model.specs.declared.scatter.ScatterBase.TheVariants.{At}
use Rattle.place_model.specs.Assignment.{class_region}
use Rattle.place_model.specs.Items.{is_zero_initialised}
use Rattle.place_model.specs.Laws.{IsWholeRegion, IsWholeItem}
use Rattle.place_model.specs.Plans.{Contents, areas_in, Planned, planned, zero_base_of, end_of, Plan, regions_of, is_startup}
use Rattle.place_model.specs.Things.{Thing, Header, AnArea, AVeneer, Startup, size_of, Stood, stood}
use Rattle.place_model.proofs.GapLemmas.{whole_area, whole_header, whole_veneer}
use Rattle.place_model.proofs.ListLemmas.{all_at, all_indexed}
use Rattle.place_model.proofs.PlanLemmas.{whole_law}
use Rattle.image_model.specs.AifFiles.{aif_plan}
use Rattle.image_model.specs.Regions.{Filling, laid, region_bytes, AreSized}
use Rattle.image_laws.proofs.FileLemmas.{rooms}
use Rattle.link_model.specs.declared.placing.Assigned.{Assigned}
use Rattle.link_model.specs.declared.placing.Placement.{Placement}
use Rattle.link_model.specs.declared.placing.Veneer.{Veneer}
use Rattle.link_model.specs.declared.selection.Linked.{Linked}
use Rattle.link_model.specs.Members.{link_of, objects_in}
use Rattle.link_model.specs.RegionValues.{region_number}
use Rattle.link_model.specs.Veneers.{veneers_of, IsIn}
use Rattle.link_items.specs.LinkedItems.{contents_of}
use Rattle.link_place.specs.Placed.{placement_of}
use Rattle.link_values.specs.Shifts.{image_base, shifts_at, shifts_of, not_relocatable}
use Rattle.link_laws.specs.AifJoins.{moved_region, shift_between, shifted_words, placement_at, filled_at, BytesMove}
use Rattle.link_laws.specs.Joins.{IsMade, given_in}
use Rattle.link_laws.specs.Placing.{IsPlacedLink}
use Rattle.link_laws.proofs.ItemLemmas.{IsOwn, items_own, own_whole}
use Rattle.link_laws.proofs.Made.AppliedLemmas.{made_is_applied}
use Rattle.link_laws.proofs.Made.PlacedLemmas.{are_needed}
use Rattle.link_laws.proofs.Made.VeneerLemmas.{veneer_to, IsPlanned, things_planned, all_stood}
use Rattle.link_laws.proofs.PlacedLemmas.{IsLoaded, IsCleared, loaded, cleared, shaped}
use Rattle.link_laws.proofs.RegionLemmas.{IsShaped, things_all, header_all, IsWithin}
use Rattle.link_laws.proofs.Shifts.Linked.{IsWholeImage}
use Rattle.link_laws.proofs.Shifts.Needs.{target_there}
use Rattle.link_laws.proofs.Shifts.Placed.{aif_placement, is_placed_link, is_moved, whole_image}
use Rattle.link_laws.proofs.Shifts.Placement.{moved_placement}
use Rattle.link_laws.proofs.Shifts.Plans.{plan_law, regions_move}
use Rattle.link_laws.proofs.Shifts.Spread.{laid_moves, IsInside, IsShiftedThing, laid_shifted, each_thing, AreFrom, IsInsideRegion, each_region}
use Rattle.link_laws.proofs.Shifts.Things.{count_of, counted_all, area_inside, area_shifted, veneer_inside, veneer_counted}
use Rattle.link_laws.proofs.Shifts.Veneers.{own_shifts, veneer_shifts}
use Rattle.link_laws.proofs.Shifts.Words.{shifted_same, shifted_none}
use Rattle.link_laws.proofs.SizedLemmas.{applied_are_sized}

-- where an address is said as an offset
by_offset : (by : ℕ) (shifts : ℕ → ℕ) (base at : ℕ) (bytes : List ℕ) → base ≤ at → shifted_words by shifts at bytes ≡ shifted_words by (λ o. shifts (base + o)) (at - base) bytes
by_offset by shifts base at bytes low = shifted_same by shifts (λ o. shifts (base + o)) at (at - base) bytes (λ i lt. let e : at + i ≡ base + (at - base + i) = omega (arith, low) in ap shifts e)

-- a link that is made at a base, whose placement is one at 0 that is moved
module _ (base : ℕ) (ram : Option (List Range32)) (l : Linked) (a : Assigned) (vs : List Veneer) (p0 : Placement) (at_0 : p0 ≡ placement_of (aif_plan 0 true (contents_of l.objects a.regions vs)))
    (made : IsMade (kind.Aif base true) ram l a vs (moved_placement base p0)) (w : IsWholeImage l p0) (fair : not_relocatable l (moved_placement base p0) ≡ None) where
  abbrev k : Kind
  k = kind.Aif base true

  abbrev c : Contents
  c = contents_of l.objects a.regions vs

  abbrev q : Placement
  q = moved_placement base p0

  abbrev plan : Plan
  plan = aif_plan base true c

  abbrev rs : List Planned
  rs = regions_of plan

  placed_link : IsPlacedLink k ram l a.regions vs
  placed_link = is_placed_link base ram l a vs q made

  abbrev count : Stood → ℕ → ℕ
  count = count_of (link_of l) q

  whole_4 : base % 4 ≡ 0
  whole_4 = made.loads.0

  low : base ≤ 2 ^ 32
  low = let room = (rooms k ram plan placed_link.accepted).0 in omega (arith, room)

  starts : image_base q ≡ base
  starts = w.start base

  -- ---- words

  whole_regions : AllByRecursion IsWholeRegion rs
  whole_regions =
      whole_law k c 0 (record {
        loads = made.loads;
        regions = made.bases;
        items = all_weaker (λ areas. AllByRecursion (IsOwn l.objects) areas) (λ areas. AllByRecursion IsWholeItem areas)
            (λ areas all. all_weaker (IsOwn l.objects) IsWholeItem (own_whole l.objects made.valid) areas all) c.areas (items_own l.objects a.regions vs);
      })

  -- ---- what stands in a region

  module _ (n : ℕ) (r : Planned) (at : slice_get rs n ≡ Some r) where
    shape : IsShaped k c 0 r
    shape = shaped k ram l a.regions vs placed_link n r at

    no_startup : AllByRecursion (λ t. is_startup t ≡ false) r.things
    no_startup = things_all (λ t. is_startup t ≡ false) k c 0 r shape (header_all (λ t. is_startup t ≡ false) k r.number refl) tt (λ t b. refl)
        (all_indexed (λ x. not (is_zero_initialised x) ≡ true → is_startup (AnArea x) ≡ false) (areas_in c r.number) (λ j x there e. refl))

    cleared_inside : AllByRecursion (IsInside count) (stood r.origin (zero_base_of r) r.zeros)
    cleared_inside =
        all_weaker (IsWithin (IsCleared l.objects) (zero_base_of r) (end_of r)) (IsInside count) (λ s x. by s.thing s.address x.holds) (stood r.origin (zero_base_of r) r.zeros) (cleared k ram l a.regions vs placed_link n r at)
      where
        by : (t : Thing) (address : ℕ) → IsCleared l.objects t → IsInside count (record { thing = t; address = address })
        by Header address h = absurd h
        by (AVeneer target thumb) address h = absurd h
        by (Startup words) address h = absurd h
        by (AnArea i) address h = area_inside l p0 w base made.sound fair i address h.0

    loaded_inside : AllByRecursion (IsInside count) (stood r.origin r.base r.things)
    loaded_inside =
        all_weaker (IsWithin (IsLoaded l.objects) r.base (zero_base_of r)) (IsInside count) (λ s x. by s.thing s.address x.holds) (stood r.origin r.base r.things) (loaded k ram l a.regions vs placed_link n r at)
      where
        by : (t : Thing) (address : ℕ) → IsLoaded l.objects t → IsInside count (record { thing = t; address = address })
        by Header address h = record { before = λ x lt. refl; behind = λ x le. refl }
        by (AVeneer target thumb) address h = veneer_inside (link_of l) q target thumb address
        by (Startup words) address h = record { before = λ x lt. refl; behind = λ x le. refl }
        by (AnArea i) address h = area_inside l p0 w base made.sound fair i address h.0

  inside : AllByRecursion (IsInsideRegion count) rs
  inside = all_indexed (IsInsideRegion count) rs (λ n r at. record { things = loaded_inside n r at; zeros = cleared_inside n r at })

  order : AreFrom count base rs
  order = (omega arith, (omega arith, (omega arith, tt)))

  counted : AllByRecursion (λ r. (x : ℕ) → r.base ≤ x → x < zero_base_of r → shifts_at (link_of l) q x ≡ sum_by (λ s. count s x) (stood r.origin r.base r.things)) rs
  counted =
      let own : q ≡ placement_of plan = ap (moved_placement base) at_0 ∙ sym (aif_placement base c) in
      each_region count base rs order inside (shifts_at (link_of l) q) (λ x from. counted_all (link_of l) q plan own x)

  -- no word of the header is shifted
  header_stays : (offset : ℕ) → offset < 128 → shifts_of (link_of l) q offset ≡ 0
  header_stays offset lt =
      let r : Planned = planned k c 0 0 (class_region (codes "RO") (At base) choice.Ro) base base in
      let start = starts in
      let low_x : base ≤ image_base q + offset = omega (arith, start) in
      let own = each_thing count r.origin r.base r.things (loaded_inside 0 r refl) (shifts_at (link_of l) q) (λ x from below. counted.0 x from below) in
      own.0 (image_base q + offset) (omega (arith, start)) (omega (arith, start, lt))

  all_from : AllByRecursion (λ r. base ≤ r.base) rs
  all_from = (omega arith, (omega arith, (omega arith, tt)))

  as_offset_at : (by at : ℕ) (bytes : List ℕ) → base ≤ at → shifted_words by (shifts_at (link_of l) q) at bytes ≡ shifted_words by (shifts_of (link_of l) q) (at - base) bytes
  as_offset_at by at bytes from =
      by_offset by (shifts_at (link_of l) q) base at bytes from ∙ ap (λ n. shifted_words by (λ o. shifts_at (link_of l) q (n + o)) (at - base) bytes) (sym starts)

  -- ---- at another base

  module _ (to : ℕ) (header : List ℕ) (headed : length header ≡ 128) where
    abbrev here : Filling
    here = filled_at base l a vs q header

    abbrev there : Filling
    there = filled_at to l a vs (moved_placement to p0) header

    abbrev by : ℕ
    by = shift_between base to

    as_offset : (at : ℕ) (bytes : List ℕ) → base ≤ at → shifted_words by (shifts_at (link_of l) q) at bytes ≡ shifted_words by (shifts_of (link_of l) q) (at - base) bytes
    as_offset at bytes from = as_offset_at by at bytes from

    sized : AreSized here plan
    sized = applied_are_sized k ram l a.regions vs (region_number (objects_in l.objects) q) (given_in (link_of l) q) header placed_link (made_is_applied k ram l a vs q made) headed

    module _ (n : ℕ) (r : Planned) (at : slice_get rs n ≡ Some r) where
      veneer_fine : (target : Home) (thumb : Bool) (address : ℕ) → IsIn vs (veneer_to r.number target thumb)
          → there r (AVeneer target thumb) ≡ shifted_words by (count (record { thing = AVeneer target thumb; address = address })) address (here r (AVeneer target thumb))
      veneer_fine target thumb address planned =
          let needed : IsIn (veneers_of (link_of l) a.regions true) (veneer_to r.number target thumb) = subst (λ (ws : List Veneer). IsIn ws (veneer_to r.number target thumb)) (are_needed k ram l a vs q made) planned in
          let placed = target_there l p0 w made.entered a.regions true (veneer_to r.number target thumb) needed in
          veneer_shifts p0 r.number target base to low placed (link_of l) thumb
          ∙ shifted_same by (own_shifts thumb) (count (record { thing = AVeneer target thumb; address = address })) 0 address ((given_in (link_of l) q).veneer r.number target thumb)
          (λ i lt. veneer_counted (link_of l) q target thumb address i)

      things : AllByRecursion (IsShiftedThing count by (here r) (there r)) (stood r.origin r.base r.things)
      things = all_indexed (IsShiftedThing count by (here r) (there r)) (stood r.origin r.base r.things) (λ i s known.
          fine s.thing s.address
          (all_at (IsInside count) (stood r.origin r.base r.things) i s (loaded_inside n r at) known)
          (all_at (IsWithin (IsLoaded l.objects) r.base (zero_base_of r)) (stood r.origin r.base r.things) i s (loaded k ram l a.regions vs placed_link n r at) known).holds
          (all_at (λ z. length (here r z.thing) ≡ size_of z.thing) (stood r.origin r.base r.things) i s
          (all_stood (λ t. length (here r t) ≡ size_of t) r.origin r.base r.things (all_at (λ z. AllByRecursion (λ t. length (here z t) ≡ size_of t) z.things) rs n r sized at)) known)
          (all_at (λ z. is_startup z.thing ≡ false) (stood r.origin r.base r.things) i s (all_stood (λ t. is_startup t ≡ false) r.origin r.base r.things (no_startup n r at)) known)
          (all_at (λ z. IsPlanned l.objects a.regions vs r.number z.thing) (stood r.origin r.base r.things) i s
          (all_stood (IsPlanned l.objects a.regions vs r.number) r.origin r.base r.things (things_planned l.objects a.regions vs r.number k 0 r (shape n r at) refl)) known))
        where
          fine : (t : Thing) (address : ℕ) → IsInside count (record { thing = t; address = address }) → IsLoaded l.objects t → length (here r t) ≡ size_of t → is_startup t ≡ false
              → IsPlanned l.objects a.regions vs r.number t → IsShiftedThing count by (here r) (there r) (record { thing = t; address = address })
          fine Header address ins own size begun planned =
              record { inside = ins; whole = whole_header; size = size; shifted = sym (shifted_none by (λ x. 0) address header (λ i lt. refl)) }
          fine (Startup words) address ins own size begun planned = absurd cc
          fine (AnArea i) address ins own size begun planned = record {
            inside = ins;
            whole = whole_area i (own_whole l.objects made.valid i own.0);
            size = size;
            shifted = area_shifted l p0 w base made.sound fair i address to low own.0;
          }
          fine (AVeneer target thumb) address ins own size begun planned = record {
            inside = ins;
            whole = whole_veneer target thumb;
            size = size;
            shifted = veneer_fine target thumb address planned;
          }

      region_shifted : laid (there r) r.origin r.base r.things ≡ shifted_words by (shifts_at (link_of l) q) r.base (laid (here r) r.origin r.base r.things)
      region_shifted =
          let origin : r.origin % 4 ≡ 0 = ap (λ z. z % 4) (shape n r at).origin ∙ whole_4 in
          let first = (all_at IsWholeRegion rs n r whole_regions at).base in
          laid_shifted count by (here r) (there r) r.origin r.base r.things origin first things (shifts_at (link_of l) q)
          (all_at (λ z. (x : ℕ) → z.base ≤ x → x < zero_base_of z → shifts_at (link_of l) q x ≡ sum_by (λ s. count s x) (stood z.origin z.base z.things)) rs n r counted at)

      -- each thing
      things_shifted : AllByRecursion (λ s. there r s.thing ≡ shifted_words by (shifts_of (link_of l) q) (s.address - base) (here r s.thing)) (stood r.origin r.base r.things)
      things_shifted =
          let from : base ≤ r.base = all_at (λ z. base ≤ z.base) rs n r all_from at in
          let own = each_thing count r.origin r.base r.things (loaded_inside n r at) (shifts_at (link_of l) q)
          (λ x low high. all_at (λ z. (x : ℕ) → z.base ≤ x → x < zero_base_of z → shifts_at (link_of l) q x ≡ sum_by (λ s. count s x) (stood z.origin z.base z.things)) rs n r counted at x low high) in
          all_indexed (λ s. there r s.thing ≡ shifted_words by (shifts_of (link_of l) q) (s.address - base) (here r s.thing)) (stood r.origin r.base r.things) (λ i s known.
          let within = all_at (IsWithin (IsLoaded l.objects) r.base (zero_base_of r)) (stood r.origin r.base r.things) i s (loaded k ram l a.regions vs placed_link n r at) known in
          let fine = all_at (IsShiftedThing count by (here r) (there r)) (stood r.origin r.base r.things) i s things known in
          let in_it = all_at (λ z. (x : ℕ) → z.address ≤ x → x < z.address + size_of z.thing → shifts_at (link_of l) q x ≡ count z x) (stood r.origin r.base r.things) i s own known in
          let size = fine.size in
          let low_s = within.from in
          fine.shifted
          ∙ shifted_same by (count s) (shifts_at (link_of l) q) s.address s.address (here r s.thing) (λ j lt. sym (in_it (s.address + j) (omega arith) (omega (arith, lt, size))))
          ∙ as_offset s.address (here r s.thing) (omega (arith, from, low_s)))

      -- the region
      whole_shifted : region_bytes there r ≡ shifted_words by (shifts_of (link_of l) q) (r.base - base) (region_bytes here r)
      whole_shifted =
          let from : base ≤ r.base = all_at (λ z. base ≤ z.base) rs n r all_from at in
          region_shifted ∙ as_offset r.base (region_bytes here r) from

    same_held : (f : ℕ) (r : Planned) (t : Thing) → there (moved_region f r) t ≡ there r t
    same_held f r Header = refl
    same_held f r (AnArea x) = refl
    same_held f r (AVeneer target thumb) = refl
    same_held f r (Startup words) = refl

    same_filled : (f : ℕ) (r : Planned) → there (moved_region f r) ≡ there r
    same_filled f r = λ i t. same_held f r t i

    one_region : (f : ℕ) (r : Planned) → region_bytes there (moved_region f r) ≡ laid (there r) r.origin r.base r.things
    one_region f r = ap (λ (h : Thing → List ℕ). laid h (r.origin + f) (r.base + f) r.things) (same_filled f r) ∙ laid_moves (there r) r.origin r.base f r.things

    regions_at : (f : ℕ) → map (region_bytes there) (regions_of (aif_plan f true c)) ≡ map (λ r. laid (there r) r.origin r.base r.things) (regions_of (aif_plan 0 true c))
    regions_at f =
        let own : f ≡ 0 + f = omega arith in
        ap (λ n. map (region_bytes there) (regions_of (aif_plan n true c))) own ∙ ap (λ (z : Plan). map (region_bytes there) (regions_of z)) (plan_law.plan 0 f c)
        ∙ ap (map (region_bytes there)) (regions_move f (aif_plan 0 true c)) ∙ each (regions_of (aif_plan 0 true c))
      where
        each : (xs : List Planned) → map (region_bytes there) (map (moved_region f) xs) ≡ map (λ r. laid (there r) r.origin r.base r.things) xs
        each [] = refl
        each (x ∷ xs) =
            ap (λ (bs : List ℕ). bs ∷ map (region_bytes there) (map (moved_region f) xs)) (one_region f x) ∙ ap (λ (bs : List (List ℕ)). laid (there x) x.origin x.base x.things ∷ bs) (each xs)

    regions_shifted : map (region_bytes there) (regions_of (aif_plan to true c)) ≡ map (λ r. shifted_words by (shifts_of (link_of l) q) (r.base - base) (region_bytes here r)) rs
    regions_shifted =
        regions_at to ∙ sym (regions_at base)
        ∙ each rs (all_indexed (λ r. region_bytes there r ≡ shifted_words by (shifts_of (link_of l) q) (r.base - base) (region_bytes here r)) rs whole_shifted)
      where
        each : (xs : List Planned) → AllByRecursion (λ r. region_bytes there r ≡ shifted_words by (shifts_of (link_of l) q) (r.base - base) (region_bytes here r)) xs
            → map (region_bytes there) xs ≡ map (λ r. shifted_words by (shifts_of (link_of l) q) (r.base - base) (region_bytes here r)) xs
        each [] all = refl
        each (x ∷ xs) (h, all) =
            ap (λ (bs : List ℕ). bs ∷ map (region_bytes there) xs) h
            ∙ ap (λ (bs : List (List ℕ)). shifted_words by (shifts_of (link_of l) q) (x.base - base) (region_bytes here x) ∷ bs) (each xs all)

    all_things : AllByRecursion (λ r. AllByRecursion (λ s. there r s.thing ≡ shifted_words by (shifts_of (link_of l) q) (s.address - base) (here r s.thing)) (stood r.origin r.base r.things)) rs
    all_things = all_indexed (λ r. AllByRecursion (λ s. there r s.thing ≡ shifted_words by (shifts_of (link_of l) q) (s.address - base) (here r s.thing)) (stood r.origin r.base r.things)) rs things_shifted

-- ---- for any link that is made

module _ (base : ℕ) (ram : Option (List Range32)) (l : Linked) (a : Assigned) (vs : List Veneer) (p : Placement) (made : IsMade (kind.Aif base true) ram l a vs p) (fair : not_relocatable l p ≡ None) where
  abbrev at_zero : Placement
  at_zero = placement_of (aif_plan 0 true (contents_of l.objects a.regions vs))

  is_at : p ≡ moved_placement base at_zero
  is_at = is_moved base ram l a vs p made

  made_there : IsMade (kind.Aif base true) ram l a vs (moved_placement base at_zero)
  made_there = subst (IsMade (kind.Aif base true) ram l a vs) is_at made

  fair_there : not_relocatable l (moved_placement base at_zero) ≡ None
  fair_there = subst (λ (z : Placement). not_relocatable l z ≡ None) is_at fair

  whole_there : IsWholeImage l at_zero
  whole_there = whole_image base ram l a vs p made

  pub no_header_shifts : (offset : ℕ) → offset < 128 → shifts_of (link_of l) p offset ≡ 0
  no_header_shifts offset lt =
      ap (λ (z : Placement). shifts_of (link_of l) z offset) is_at ∙ header_stays base ram l a vs at_zero refl made_there whole_there fair_there offset lt

  module _ (to : ℕ) (header : List ℕ) (headed : length header ≡ 128) where
    other_at : placement_at to l a vs ≡ moved_placement to at_zero
    other_at = aif_placement to (contents_of l.objects a.regions vs)

    abbrev Things : Placement → Placement → Type 0
    Things z y =
        AllByRecursion (λ r. AllByRecursion (λ s. filled_at to l a vs y header r s.thing
        ≡ shifted_words (shift_between base to) (shifts_of (link_of l) z) (s.address - base) (filled_at base l a vs z header r s.thing)) (stood r.origin r.base r.things))
        (regions_of (aif_plan base true (contents_of l.objects a.regions vs)))

    pub moved_things : Things p (placement_at to l a vs)
    moved_things =
        subst (λ (z : Placement). Things z (placement_at to l a vs)) (sym is_at)
        (subst (λ (y : Placement). Things (moved_placement base at_zero) y) (sym other_at) (all_things base ram l a vs at_zero refl made_there whole_there fair_there to header headed))

    abbrev Regions : Placement → Placement → Type 0
    Regions z y =
        map (region_bytes (filled_at to l a vs y header)) (regions_of (aif_plan to true (contents_of l.objects a.regions vs)))
        ≡ map (λ r. shifted_words (shift_between base to) (shifts_of (link_of l) z) (r.base - base) (region_bytes (filled_at base l a vs z header) r))
        (regions_of (aif_plan base true (contents_of l.objects a.regions vs)))

    pub moved_regions : Regions p (placement_at to l a vs)
    moved_regions =
        subst (λ (z : Placement). Regions z (placement_at to l a vs)) (sym is_at)
        (subst (λ (y : Placement). Regions (moved_placement base at_zero) y) (sym other_at) (regions_shifted base ram l a vs at_zero refl made_there whole_there fair_there to header headed))

pub bytes_law : BytesMove
bytes_law = record {
  things = λ base to ram l a vs p header m headed. moved_things base ram l a vs p m.made m.movable to header headed;
  regions = λ base to ram l a vs p header m headed. moved_regions base ram l a vs p m.made m.movable to header headed;
  header = λ base ram l a vs p made fair offset lt. no_header_shifts base ram l a vs p made fair offset lt;
}
