-- A link that is placed as an AIF, whose areas are patched and whose veneers lead to their targets, is one whose startup code works.
use Rattle.std.proofs.Common.{◌≡◌, ℕ, ◌+◌, ◌%◌, ◌^◌, Bool, true, false, List, [], ◌∷◌, refl, sym, ap, subst, ◌∙◌, arith, Option}
use Rattle.std.specs.List.{AllByRecursion}
use Rattle.std.specs.Option.{option_map_or}
use Rattle.base_lemmas.proofs.BaseLemmas.{all_weaker}
use Rattle.sdt_word.specs.Numbers.{flag}
use Rattle.sdt_word.specs.declared.ranges.Range32.{Range32}
use Rattle.boot_code.specs.Boots.{ByteMap}
use Rattle.boot_code.specs.Maps.{Holds, bytes_of_words}
use Rattle.place_model.specs.declared.scatter.Kind.TheVariants as kind
use Rattle.place_model.specs.Faults.{load_meeting, execution_meeting}
use Rattle.place_model.specs.Laws.{IsWholeItem}
use Rattle.place_model.specs.Plans.{Contents, Planned, Plan, regions_of}
use Rattle.place_model.specs.Things.{Thing, Header, AnArea, AVeneer, Startup, stood}
use Rattle.place_model.proofs.ListLemmas.{all_at}
use Rattle.place_model.proofs.SpanLemmas.{or_none}
use Rattle.image_model.specs.AifFiles.{parts_size, header_words, with_header, aif_plan}
use Rattle.image_model.specs.Regions.{Given, Filling, AreSized}
use Rattle.image_model.specs.Views.{IsView}
use Rattle.image_laws.specs.AifLaws.{IsAif}
use Rattle.image_laws.proofs.FileLemmas.{overlap_none}
use Rattle.image_laws.proofs.PlainLemmas.{r0}
use Rattle.image_laws.proofs.ViewLemmas.{is_view, view_things}
use Rattle.link_model.specs.declared.placing.Assigned.{Assigned}
use Rattle.link_model.specs.declared.placing.Placement.{Placement}
use Rattle.link_model.specs.declared.placing.Veneer.{Veneer}
use Rattle.link_model.specs.declared.selection.Linked.{Linked}
use Rattle.link_model.specs.Members.{link_of, objects_in}
use Rattle.link_model.specs.RegionValues.{region_number}
use Rattle.link_model.specs.Veneers.{veneers_of}
use Rattle.link_items.specs.LinkedItems.{items_in, contents_of}
use Rattle.link_place.specs.Placed.{placement_of}
use Rattle.link_apply.specs.PatchedBytes.{veneer_bytes}
use Rattle.link_apply.specs.Placed.{target_in, home_of, called}
use Rattle.link_laws.specs.AifJoins.{EntersByVeneer}
use Rattle.link_laws.specs.AifStarts.{given_of, view_at, IsSeen}
use Rattle.link_laws.specs.Joins.{IsEntryOf, given_in}
use Rattle.link_laws.specs.Placing.{bases_of, IsPlacedLink, IsVeneerApplied, AreApplied}
use Rattle.link_laws.proofs.Aif.Entry.{no_veneers, is_called, entry_is, entry_small, entry_even, IsVeneerPlace, veneer_place, veneer_is, called_veneer, veneer_inside}
use Rattle.link_laws.proofs.ItemLemmas.{IsOwn, items_own, own_whole}
use Rattle.link_laws.proofs.SizedLemmas.{applied_are_sized}

-- ---- what the header calls is beside what an image is made of

module _ (l : Linked) (q : Placement) (plan : Plan) where
  abbrev numbers : List ℕ → Option ℕ
  numbers = region_number (objects_in l.objects) q

  pub called_applied : AreApplied plan l numbers (given_in (link_of l) q) → AreApplied plan l numbers (given_of l q)
  called_applied applied = record {
    areas = applied.areas;
    veneers =
        all_weaker (λ r. AllByRecursion (λ s. IsVeneerApplied plan (given_in (link_of l) q) r s.address s.thing) (stood r.origin r.base r.things))
        (λ r. AllByRecursion (λ s. IsVeneerApplied plan (given_of l q) r s.address s.thing) (stood r.origin r.base r.things))
        (λ r all. all_weaker (λ s. IsVeneerApplied plan (given_in (link_of l) q) r s.address s.thing) (λ s. IsVeneerApplied plan (given_of l q) r s.address s.thing) (λ s h. each r s.thing s.address h) (stood r.origin r.base r.things) all)
        (regions_of plan) applied.veneers;
  }
    where
      each : (r : Planned) (t : Thing) (address : ℕ) → IsVeneerApplied plan (given_in (link_of l) q) r address t → IsVeneerApplied plan (given_of l q) r address t
      each r Header address h = h
      each r (AnArea i) address h = h
      each r (AVeneer target thumb) address h = h
      each r (Startup words) address h = h

-- ---- an image at a base

module _ (base : ℕ) (rel : Bool) (ram : Option (List Range32)) (l : Linked) (a : Assigned) (vs : List Veneer) (h : IsPlacedLink (kind.Aif base rel) ram l a.regions vs)
    (needed : vs ≡ veneers_of (link_of l) a.regions true) (entered : IsEntryOf l)
    (applied : AreApplied (aif_plan base rel (contents_of l.objects a.regions vs)) l (region_number (objects_in l.objects) (placement_of (aif_plan base rel (contents_of l.objects a.regions vs))))
    (given_in (link_of l) (placement_of (aif_plan base rel (contents_of l.objects a.regions vs))))) where
  abbrev c : Contents
  c = contents_of l.objects a.regions vs

  abbrev p : Placement
  p = placement_of (aif_plan base rel c)

  abbrev g : Given
  g = given_of l p

  abbrev held : Bool → Filling
  held moves = with_header moves (aif_plan base rel c) base g

  pub own_applied : AreApplied (aif_plan base rel c) l (region_number (objects_in l.objects) p) g
  own_applied = called_applied l p (aif_plan base rel c) applied

  pub are_sized : (moves : Bool) → AreSized (held moves) (aif_plan base rel c)
  are_sized moves =
      applied_are_sized (kind.Aif base rel) ram l a.regions vs (region_number (objects_in l.objects) p) g (bytes_of_words (header_words moves (aif_plan base rel c) base g.call)) h own_applied refl

  pub is_aif : IsAif base rel c (items_in l.objects) g ram
  is_aif =
      let at = is_called base rel ram l a vs h needed entered in
      record {
        whole = record {
          loads = h.loads;
          regions = h.bases;
          items = all_weaker (λ areas. AllByRecursion (IsOwn l.objects) areas) (λ areas. AllByRecursion IsWholeItem areas)
              (λ areas all. all_weaker (IsOwn l.objects) IsWholeItem (own_whole l.objects h.valid) areas all) c.areas (items_own l.objects a.regions vs);
        };
        assigned = h.assigned;
        accepted = h.accepted;
        sized = are_sized;
        no_veneers = no_veneers base rel ram l a vs h needed entered;
        call_whole = at.whole;
        call_low = at.low;
        call_high = at.high;
      }

  -- ---- its view

  abbrev view : ByteMap
  view = view_at base rel l a vs p

  pub is_shown : IsView (aif_plan base rel c) (held false) view
  is_shown = is_view (aif_plan base rel c) (held false) (or_none (load_meeting (aif_plan base rel c)) (execution_meeting (aif_plan base rel c)) (overlap_none (kind.Aif base rel) ram (aif_plan base rel c) h.accepted)).1 (are_sized false)

  pub is_seen : IsSeen base rel ram l a vs p view
  is_seen = record { placed = h; applied = own_applied; shows = is_shown }

  -- ---- its veneer to the entry

  abbrev ro : Planned
  ro = r0 (kind.Aif base rel) c base (items_in l.objects) h.assigned.each

  abbrev entry : ℕ
  entry = target_in p (home_of l.entry) + flag l.entry.thumb

  -- as much is behind the base as its offset says
  pub enters : l.entry.thumb ≡ true → (offset : ℕ) → called l.entry.thumb l p ≡ base + offset → EntersByVeneer (parts_size (aif_plan base rel c)) offset entry base view
  enters thumb offset at =
      let place : IsVeneerPlace base rel ram l a vs h needed entered thumb = veneer_place base rel ram l a vs h needed entered thumb in
      let there : base + offset ≡ place.spot.address = sym at ∙ called_veneer base rel ram l a vs h needed entered thumb in
      let goal : target_in p (home_of l.entry) ≡ bases_of (aif_plan base rel c) l.entry.object l.entry.area + l.entry.offset = entry_is base rel ram l a vs h needed entered in
      let small = entry_small base rel ram l a vs h needed entered in
      let even = entry_even base rel ram l a vs h needed entered in
      let state : flag l.entry.thumb ≡ 1 = ap flag thumb in
      let marked : (target_in p (home_of l.entry) + 1) % 2 ^ 32 ≡ entry = omega (arith, goal, small, even, state) in
      let room = veneer_inside base rel ram l a vs h needed entered thumb in
      let things = view_things (aif_plan base rel c) (held false) view (are_sized false) is_shown in
      let shown : Holds view place.spot.address (held false ro place.spot.thing) =
      all_at (λ s. Holds view s.address (held false ro s.thing)) (stood ro.origin ro.base ro.things) place.place place.spot things.0 place.there in
      let bytes : held false ro place.spot.thing ≡ bytes_of_words (0xE59FC000 ∷ 0xE12FFF1C ∷ entry ∷ []) =
      ap (held false ro) place.is
      ∙ ap (λ (o : Option ℕ). option_map_or (λ v. veneer_bytes v (target_in p (home_of l.entry)) true) o []) (veneer_is base rel ram l a vs h needed entered thumb)
      ∙ ap (λ (n : ℕ). bytes_of_words (0xE59FC000 ∷ 0xE12FFF1C ∷ n ∷ [])) marked in
      record {
        inside = omega (arith, at, room);
        shows = subst (λ (n : ℕ). Holds view n (bytes_of_words (0xE59FC000 ∷ 0xE12FFF1C ∷ entry ∷ []))) (sym there) (subst (Holds view place.spot.address) bytes shown);
        small = omega (arith, goal, small, even, state);
        fair = λ two. omega (arith, goal, even, state, two);
      }
