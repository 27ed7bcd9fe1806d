-- A relocatable AIF at another base: its areas are patched as their directives ask there, and its veneers lead to their targets.
use Rattle.std.proofs.Common.{◌≡◌, ℕ, ◌+◌, ◌%◌, ◌^◌, ◌≤◌, Bool, true, false, List, [], ◌++◌, map, refl, sym, ap, subst, ◌∙◌, arith, Option, Some, None}
use Rattle.std.specs.Prelude.{slice_get, is_some}
use Rattle.std.specs.List.{find, AllByRecursion}
use Rattle.std.specs.Option.{option_map, option_map_or}
use Rattle.std.proofs.lemmas.Option.{slice_get-map}
use Rattle.base_lemmas.proofs.BaseLemmas.{all_weaker}
use Rattle.sdt_word.specs.Bytes.{bytes_of}
use Rattle.sdt_word.specs.declared.ranges.Range32.{Range32}
use Rattle.aof_object.specs.declared.records.Area.{Area}
use Rattle.aof_object.specs.declared.records.Object.{Object}
use Rattle.patch_model.specs.Fields.{Home}
use Rattle.patch_model.specs.Patched.{biased_displacement}
use Rattle.patch_model.specs.Reaches.{HasVeneer}
use Rattle.place_model.specs.declared.scatter.Kind.TheVariants as kind
use Rattle.place_model.specs.Plans.{Contents, Planned, regions_of}
use Rattle.place_model.specs.Things.{Thing, Header, AnArea, AVeneer, Startup, Stood, stood}
use Rattle.place_model.proofs.ListLemmas.{all_at, all_indexed, all_both, all_map, all_of_map}
use Rattle.image_model.specs.AifFiles.{aif_plan}
use Rattle.image_laws.proofs.FileLemmas.{rooms}
use Rattle.link_model.specs.declared.placing.Assigned.{Assigned}
use Rattle.link_model.specs.declared.placing.PlacedArea.{PlacedArea}
use Rattle.link_model.specs.declared.placing.Placement.{Placement}
use Rattle.link_model.specs.declared.placing.Veneer.{Veneer}
use Rattle.link_model.specs.declared.selection.Linked.{Linked}
use Rattle.link_model.specs.declared.selection.Named.{Named}
use Rattle.link_model.specs.Members.{link_of, objects_in}
use Rattle.link_model.specs.RegionValues.{region_number}
use Rattle.link_model.specs.Veneers.{veneers_of, IsIn}
use Rattle.link_items.specs.LinkedItems.{contents_of}
use Rattle.link_place.specs.Placed.{placement_of}
use Rattle.link_values.specs.Placed.{is_area, base_in}
use Rattle.link_values.specs.Placed as placed
use Rattle.link_apply.specs.Laws.{AreBytes}
use Rattle.link_apply.specs.PatchedBytes.{patched_bytes, veneer_bytes}
use Rattle.link_apply.specs.Placed.{veneers_at, target_in}
use Rattle.link_values.specs.Shifts.{not_relocatable}
use Rattle.patch_model.specs.Patched.{AreaPatched}
use Rattle.link_laws.specs.AifJoins.{moved_region, moved_thing, shift_between, placement_at}
use Rattle.link_laws.specs.Joins.{IsMade, given_in}
use Rattle.link_laws.specs.Placing.{bases_of, IsPlacedLink, IsApplied, IsVeneerApplied, AreApplied}
use Rattle.link_laws.proofs.AppliedAt.{applied_at}
use Rattle.link_laws.proofs.Made.AddressLemmas.{has_places}
use Rattle.link_laws.proofs.Made.AppliedLemmas.{made_is_applied}
use Rattle.link_laws.proofs.Made.PlacedLemmas.{are_needed, made_is_placed}
use Rattle.link_laws.proofs.Made.VeneerLemmas.{veneer_to, IsPlanned, things_planned, all_stood}
use Rattle.link_laws.proofs.PlacedLemmas.{shaped}
use Rattle.link_laws.proofs.Shifts.Linked.{IsWholeImage, area_fits}
use Rattle.link_laws.proofs.Shifts.Needs.{target_there}
use Rattle.link_laws.proofs.Shifts.Placed.{aif_placement, is_moved, whole_image, base_whole}
use Rattle.link_laws.proofs.Shifts.Placement.{moved_area, moved_placement, find_area_moves, place_moves, veneers_move}
use Rattle.link_laws.proofs.Shifts.Plans.{plan_law, regions_move, stood_moves}
use Rattle.link_laws.proofs.Shifts.Veneers.{own_shifts, veneer_shifts}
use Rattle.link_laws.proofs.Shifts.Words.{shifted_none}

-- the regions of the plan at a base are those at 0, moved
pub regions_are : (f : ℕ) (c : Contents) → regions_of (aif_plan f true c) ≡ map (moved_region f) (regions_of (aif_plan 0 true c))
regions_are f c =
    let own : f ≡ 0 + f = omega arith in
    ap (λ n. regions_of (aif_plan n true c)) own ∙ ap regions_of (plan_law.plan 0 f c) ∙ regions_move f (aif_plan 0 true c)

-- ---- plain numbers

even_moves : (x o b c : ℕ) → b % 4 ≡ 0 → c % 4 ≡ 0 → (x + b + o) % 2 ^ 32 % 2 ≡ 0 → (x + c + o) % 2 ^ 32 % 2 ≡ 0
even_moves x o b c hb hc h = omega (arith, hb, hc, h)

aligned_moves : (y b c : ℕ) → b % 4 ≡ 0 → c % 4 ≡ 0 → (y + b) % 4 ≡ 0 → (y + c) % 4 ≡ 0
aligned_moves y b c hb hc h = omega (arith, hb, hc, h)

leads_moves : (y b c x o s : ℕ) → (y + b + 4 + 8 + s) % 2 ^ 32 ≡ ((x + b + o) % 2 ^ 32 + 2 ^ 25) % 2 ^ 32 → (y + c + 4 + 8 + s) % 2 ^ 32 ≡ ((x + c + o) % 2 ^ 32 + 2 ^ 25) % 2 ^ 32
leads_moves y b c x o s h = omega (arith, h)

-- ---- a veneer

module _ (l : Linked) (p : Placement) (region : ℕ) (target : Home) (b c : ℕ) (low : b ≤ 2 ^ 32) (here_4 : b % 4 ≡ 0) (there_4 : c % 4 ≡ 0)
    (there : is_some (find (is_area target.object target.area) p.areas) ≡ true) where
  abbrev x : ℕ
  x = base_in p target.object target.area

  abbrev given : ℕ → Bool → List ℕ
  given by thumb = (given_in (link_of l) (moved_placement by p)).veneer region target thumb

  goal_at : (by : ℕ) → target_in (moved_placement by p) target ≡ (x + by + target.offset) % 2 ^ 32
  goal_at by = place_moves by p target.object target.area target.offset there

  -- what stands there where it stands at all
  its_bytes : (by : ℕ) (thumb : Bool) (o : Option ℕ) → veneers_at p region target thumb ≡ o
      → given by thumb ≡ option_map_or (λ y. veneer_bytes (y + by) (target_in (moved_placement by p) target) thumb) o []
  its_bytes by thumb o e =
      ap (λ (z : Option ℕ). option_map_or (λ v. veneer_bytes v (target_in (moved_placement by p) target) thumb) z []) (veneers_move by p region target thumb ∙ ap (option_map (λ y. y + by)) e) ∙ go o
    where
      go : (z : Option ℕ) → option_map_or (λ v. veneer_bytes v (target_in (moved_placement by p) target) thumb) (option_map (λ y. y + by) z) []
          ≡ option_map_or (λ y. veneer_bytes (y + by) (target_in (moved_placement by p) target) thumb) z []
      go None = refl
      go (Some y) = refl

  veneer_leads : (thumb : Bool) (y : ℕ) → HasVeneer (y + b) (target_in (moved_placement b p) target) thumb (given b thumb) → HasVeneer (y + c) (target_in (moved_placement c p) target) thumb (given c thumb)
  veneer_leads true y h = go (veneers_at p region target true) refl
    where
      go : (o : Option ℕ) → veneers_at p region target true ≡ o → HasVeneer (y + c) (target_in (moved_placement c p) target) true (given c true)
      go None e = absurd (let none : [] ≡ bytes_of 0xE59FC000 4 ++ bytes_of 0xE12FFF1C 4 ++ bytes_of ((target_in (moved_placement b p) target + 1) % 2 ^ 32) 4 = sym (its_bytes b true None e) ∙ h.contents in cc)
      go (Some z) e =
          let first : (x + b + target.offset) % 2 ^ 32 % 2 ≡ 0 = ap (λ n. n % 2) (sym (goal_at b)) ∙ h.even in
          record { even = ap (λ n. n % 2) (goal_at c) ∙ even_moves x target.offset b c here_4 there_4 first; contents = its_bytes c true (Some z) e }
  veneer_leads false y h =
      let same : given c false ≡ given b false =
      veneer_shifts p region target b c low there (link_of l) false ∙ shifted_none (shift_between b c) (own_shifts false) 0 (given b false) (λ i lt. refl) in
      let leads : (y + b + 4 + 8 + biased_displacement false (0xEA000000 + h.field)) % 2 ^ 32 ≡ ((x + b + target.offset) % 2 ^ 32 + 2 ^ 25) % 2 ^ 32 = h.leads ∙ ap (λ n. (n + 2 ^ 25) % 2 ^ 32) (goal_at b) in
      record {
        aligned = aligned_moves y b c here_4 there_4 h.aligned;
        field = h.field;
        fits = h.fits;
        contents = same ∙ h.contents;
        leads = leads_moves y b c x target.offset (biased_displacement false (0xEA000000 + h.field)) leads ∙ ap (λ n. (n + 2 ^ 25) % 2 ^ 32) (sym (goal_at c));
      }

-- ---- a link that is made

module _ (base : ℕ) (ram : Option (List Range32)) (l : Linked) (a : Assigned) (vs : List Veneer) (p : Placement) (made : IsMade (kind.Aif base true) ram l a vs p) (fair : not_relocatable l p ≡ None)
    (to : ℕ) (whole : to % 4 ≡ 0) (placed_there : IsPlacedLink (kind.Aif to true) None l a.regions vs) where
  abbrev c : Contents
  c = contents_of l.objects a.regions vs

  abbrev p0 : Placement
  p0 = placement_of (aif_plan 0 true c)

  abbrev rs : List Planned
  rs = regions_of (aif_plan 0 true c)

  abbrev q : Placement
  q = placement_at to l a vs

  is_at : p ≡ moved_placement base p0
  is_at = is_moved base ram l a vs p made

  q_at : q ≡ moved_placement to p0
  q_at = aif_placement to c

  made_there : IsMade (kind.Aif base true) ram l a vs (moved_placement base p0)
  made_there = subst (IsMade (kind.Aif base true) ram l a vs) is_at made

  fair_there : not_relocatable l (moved_placement base p0) ≡ None
  fair_there = subst (λ (z : Placement). not_relocatable l z ≡ None) is_at fair

  w : IsWholeImage l p0
  w = whole_image base ram l a vs p made

  own_link : IsPlacedLink (kind.Aif base true) ram l a.regions vs
  own_link = made_is_placed (kind.Aif base true) ram l a vs p made

  low : base ≤ 2 ^ 32
  low = let room = (rooms (kind.Aif base true) ram (aif_plan base true c) own_link.accepted).0 in omega (arith, room)

  -- ---- areas

  areas : (own area : ℕ) (o : Named Object) (x : Area) → slice_get l.objects own ≡ Some o → slice_get o.value.areas area ≡ Some x
      → IsApplied (aif_plan to true c) l (region_number (objects_in l.objects) q) (given_in (link_of l) q) own area o.value
  areas own area o x here there = go (find (is_area own area) p0.areas) refl (w.there own area o x here there)
    where
      bytes : AreBytes x.bytes
      bytes = all_at (λ z. AreBytes z.bytes) o.value.areas area x (all_at (λ z. AllByRecursion (λ y. AreBytes y.bytes) z.value.areas) l.objects own o made.bytes here) there

      go : (z : Option PlacedArea) → find (is_area own area) p0.areas ≡ z → is_some z ≡ true
          → IsApplied (aif_plan to true c) l (region_number (objects_in l.objects) q) (given_in (link_of l) q) own area o.value
      go None e f = absurd cc
      go (Some at) e f =
          let found : find (is_area own area) q.areas ≡ Some (moved_area to at) =
          ap (λ (z : Placement). find (is_area own area) z.areas) q_at ∙ find_area_moves to p0 own area ∙ ap (option_map (moved_area to)) e in
          let Fits : Placement → Type 0 = λ z. AreaPatched x.relocs x.bytes (at.address + to) (placed.values_in (link_of l) z own) (veneers_at z at.region) (patched_bytes z (placed.values_in (link_of l) z own) at.region (at.address + to) x) in
          let fits : Fits (moved_placement to p0) = area_fits l p0 w base made_there.sound fair_there own o here area x there at e to low bytes in
          applied_at (kind.Aif to true) None l a.regions vs placed_there own o here area x there (moved_area to at) found (subst Fits (sym q_at) fits)

  -- ---- veneers

  abbrev Here : ℕ → Planned → Stood → Type 0
  Here f r s = IsVeneerApplied (aif_plan f true c) (given_in (link_of l) (placement_of (aif_plan f true c))) r s.address s.thing

  abbrev All : ℕ → Planned → Type 0
  All f r = AllByRecursion (Here f r) (stood r.origin r.base r.things)

  goal_is : (f : ℕ) (target : Home) → target_in (moved_placement f p0) target ≡ (bases_of (aif_plan f true c) target.object target.area + target.offset) % 2 ^ 32
  goal_is f target =
      ap (λ (z : Placement). target_in z target) (sym (aif_placement f c)) ∙ ap (λ n. (n + target.offset) % 2 ^ 32) ((has_places (aif_plan f true c)).bases target.object target.area)

  thing_moves : (n : ℕ) (r : Planned) → r.number ≡ n → (t : Thing) (y : ℕ) → IsPlanned l.objects a.regions vs n t
      → Here base (moved_region base r) (record { thing = t; address = y + base }) → Here to (moved_region to r) (record { thing = t; address = y + to })
  thing_moves n r own Header y planned h = tt
  thing_moves n r own (AnArea i) y planned h = tt
  thing_moves n r own (Startup words) y planned h = tt
  thing_moves n r own (AVeneer target thumb) y planned h =
      let needed : IsIn (veneers_of (link_of l) a.regions true) (veneer_to n target thumb) =
      subst (λ (ws : List Veneer). IsIn ws (veneer_to n target thumb)) (are_needed (kind.Aif base true) ram l a vs p made) planned in
      let known : is_some (find (is_area target.object target.area) p0.areas) ≡ true = target_there l p0 w made.entered a.regions true (veneer_to n target thumb) needed in
      let Of : ℕ → ℕ → Placement → Type 0 = λ f g z. HasVeneer (y + f) g thumb ((given_in (link_of l) z).veneer r.number target thumb) in
      let first : Of base (target_in (moved_placement base p0) target) (moved_placement base p0) =
      subst (λ (g : ℕ). Of base g (moved_placement base p0)) (sym (goal_is base target)) (subst (Of base ((bases_of (aif_plan base true c) target.object target.area + target.offset) % 2 ^ 32)) (aif_placement base c) h) in
      let second : Of to (target_in (moved_placement to p0) target) (moved_placement to p0) =
      veneer_leads l p0 r.number target base to low (base_whole base ram l a vs p made) whole known thumb y first in
      subst (Of to ((bases_of (aif_plan to true c) target.object target.area + target.offset) % 2 ^ 32)) (sym (aif_placement to c)) (subst (λ (g : ℕ). Of to g (moved_placement to p0)) (goal_is to target) second)

  region_moves : (n : ℕ) (r : Planned) → slice_get rs n ≡ Some r → All base (moved_region base r) → All to (moved_region to r)
  region_moves n r at all =
      let there : slice_get (regions_of (aif_plan base true c)) n ≡ Some (moved_region base r) =
      ap (λ (z : List Planned). slice_get z n) (regions_are base c) ∙ slice_get-map (moved_region base) rs n ∙ ap (option_map (moved_region base)) at in
      let ss : List Stood = stood r.origin r.base r.things in
      let Planned_ : Stood → Type 0 = λ s. IsPlanned l.objects a.regions vs r.number s.thing in
      let Before : Stood → Type 0 = λ s. Here base (moved_region base r) (record { thing = s.thing; address = s.address + base }) in
      let After : Stood → Type 0 = λ s. Here to (moved_region to r) (record { thing = s.thing; address = s.address + to }) in
      let planned : AllByRecursion Planned_ ss =
      all_stood (IsPlanned l.objects a.regions vs r.number) r.origin r.base r.things
      (things_planned l.objects a.regions vs r.number (kind.Aif base true) 0 (moved_region base r) (shaped (kind.Aif base true) ram l a.regions vs own_link n (moved_region base r) there) refl) in
      let before : AllByRecursion Before ss =
      all_of_map (Here base (moved_region base r)) (moved_thing base) ss (subst (AllByRecursion (Here base (moved_region base r))) (stood_moves r.origin r.base base r.things) all) in
      let after : AllByRecursion After ss = all_weaker (λ s. Planned_ s × Before s) After (λ s h. thing_moves r.number r refl s.thing s.address h.0 h.1) ss (all_both Planned_ Before ss planned before) in
      subst (AllByRecursion (Here to (moved_region to r))) (sym (stood_moves r.origin r.base to r.things)) (all_map (Here to (moved_region to r)) (moved_thing to) ss after)

  veneers : AllByRecursion (All to) (regions_of (aif_plan to true c))
  veneers =
      let given : AllByRecursion (All base) (regions_of (aif_plan base true c)) =
      subst (λ (z : Placement). AllByRecursion (λ r. AllByRecursion (λ s. IsVeneerApplied (aif_plan base true c) (given_in (link_of l) z) r s.address s.thing) (stood r.origin r.base r.things)) (regions_of (aif_plan base true c)))
      (is_at ∙ sym (aif_placement base c)) (made_is_applied (kind.Aif base true) ram l a vs p made).veneers in
      let here : AllByRecursion (λ r. All base (moved_region base r)) rs = all_of_map (All base) (moved_region base) rs (subst (AllByRecursion (All base)) (regions_are base c) given) in
      let there : AllByRecursion (λ r. All to (moved_region to r)) rs = all_indexed (λ r. All to (moved_region to r)) rs (λ n r at. region_moves n r at (all_at (λ z. All base (moved_region base z)) rs n r here at)) in
      subst (AllByRecursion (All to)) (sym (regions_are to c)) (all_map (All to) (moved_region to) rs there)

  pub moved_is_applied : AreApplied (aif_plan to true c) l (region_number (objects_in l.objects) q) (given_in (link_of l) q)
  moved_is_applied = record { areas = λ own area o x here there unmarked. areas own area o x here there; veneers = veneers }
