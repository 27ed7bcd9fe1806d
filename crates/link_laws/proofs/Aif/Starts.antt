-- A link that is made as an AIF starts.
use Rattle.std.proofs.Common.{◌≡◌, ℕ, ◌+◌, ◌*◌, ◌-◌, Bool, true, false, List, [], ◌∷◌, length, map, refl, sym, ap, subst, ◌∙◌, arith, Option, Some, None}
use Rattle.std.specs.Prelude.{slice_get, unwrap_or, is_some}
use Rattle.std.specs.List.{find, flat_map}
use Rattle.std.specs.Option.{option_map}
use Rattle.sdt_word.specs.Numbers.{flag}
use Rattle.sdt_word.specs.declared.ranges.Range32.{Range32}
use Rattle.boot_code.specs.Aif.{BootsAif, IsRelocatable, ShowsImage, file_at, aif_bound, shifted_file}
use Rattle.boot_code.specs.Boots.{Boots, covers, ByteMap}
use Rattle.boot_code.specs.Startup.{zeros}
use Rattle.boot_code.specs.Maps.{Holds, bytes_of_words}
use Rattle.patch_model.specs.Fields.{Home}
use Rattle.place_model.specs.declared.scatter.Kind.TheVariants as kind
use Rattle.place_model.specs.Plans.{Contents, Planned, length_of, execution_size, Plan, regions_of}
use Rattle.place_model.specs.Things.{Thing, Header, AnArea, AVeneer, Startup}
use Rattle.image_model.specs.AifFiles.{parts_size, zero_size, with_header, fixed_aif, relocatable_aif, aif_plan}
use Rattle.image_model.specs.Regions.{Given, Filling, region_bytes, filled}
use Rattle.image_model.specs.Views.{IsView}
use Rattle.image_laws.specs.AifLaws.{IsAif, IsFixedImage, HasEntryVeneer}
use Rattle.image_laws.proofs.AifFixed.{fixed_image_boots}
use Rattle.link_model.specs.declared.placing.Assigned.{Assigned}
use Rattle.link_model.specs.declared.placing.Placement.{Placement}
use Rattle.link_model.specs.declared.placing.Region.{Region}
use Rattle.link_model.specs.declared.placing.Veneer.{Veneer}
use Rattle.link_model.specs.declared.selection.Linked.{Linked}
use Rattle.link_model.specs.Members.{link_of, objects_in}
use Rattle.link_model.specs.RegionValues.{region_number}
use Rattle.link_model.specs.Veneers.{veneers_of}
use Rattle.link_items.specs.LinkedItems.{items_in}
use Rattle.link_place.specs.Placed.{placement_of}
use Rattle.link_values.specs.Placed.{is_area, base_in}
use Rattle.link_apply.specs.Placed.{veneers_at, target_in, home_of, called}
use Rattle.link_values.specs.Shifts.{shifts_of, not_relocatable}
use Rattle.link_laws.specs.AifJoins.{placement_at, given_at, moving_list, moving_file, IsViewAt, HasRoomAt, IsMovingImage, EntersByVeneer}
use Rattle.link_laws.specs.AifStarts.{contents_at, given_of, MadeIsAif, HasParts, MadeHasParts, view_at, IsSeen, MadeIsSeen, aif_at, MovedIsSeen, entry_at, MadeFixedBoots, MadeMovingBoots}
use Rattle.link_laws.specs.Joins.{IsMade, given_in}
use Rattle.link_laws.specs.Placing.{bases_of, IsPlacedLink, AreApplied}
use Rattle.link_laws.proofs.Aif.Entry.{entry_is, entry_low, veneer_is}
use Rattle.link_laws.proofs.Aif.Made.{is_aif, is_seen, is_shown, enters}
use Rattle.link_laws.proofs.Made.AddressLemmas.{has_places}
use Rattle.link_laws.proofs.Made.AppliedLemmas.{made_is_applied}
use Rattle.link_laws.proofs.Made.BytesLaws.{fronted_load}
use Rattle.link_laws.proofs.Made.PlacedLemmas.{is_placement, are_needed, made_is_placed}
use Rattle.link_laws.proofs.Shifts.Aif.{accepted_there, parts_at, zero_at}
use Rattle.link_laws.proofs.Shifts.Applied.{moved_is_applied}
use Rattle.link_laws.proofs.Shifts.Needs.{entry_there}
use Rattle.link_laws.proofs.Shifts.Placed.{aif_placement, whole_image}
use Rattle.link_laws.proofs.Shifts.Placement.{base_moves, veneers_move}
use Rattle.link_laws.proofs.Shifts.Starts.{file_size, moved_image_boots, moved_image_shows, relocatable_at}

apart : {X : Type 0} (x : X) (o : Option X) → o ≡ None → o ≡ Some x → ⊥
apart x o none some = cc

-- what is made is the placement of its plan
module _ (base : ℕ) (rel : Bool) (ram : Option (List Range32)) (l : Linked) (a : Assigned) (vs : List Veneer) (p : Placement) (h : IsMade (kind.Aif base rel) ram l a vs p) where
  abbrev plan : Plan
  plan = aif_plan base rel (contents_at l a vs)

  abbrev own : Placement
  own = placement_of plan

  pub is_own : p ≡ own
  is_own = is_placement (kind.Aif base rel) ram l a vs p h

  pub placed : IsPlacedLink (kind.Aif base rel) ram l a.regions vs
  placed = made_is_placed (kind.Aif base rel) ram l a vs p h

  pub needs : vs ≡ veneers_of (link_of l) a.regions true
  needs = are_needed (kind.Aif base rel) ram l a vs p h

  pub applies : AreApplied plan l (region_number (objects_in l.objects) own) (given_in (link_of l) own)
  applies = subst (λ (z : Placement). AreApplied plan l (region_number (objects_in l.objects) z) (given_in (link_of l) z)) is_own (made_is_applied (kind.Aif base rel) ram l a vs p h)

  own_aif : IsAif base rel (contents_at l a vs) (items_in l.objects) (given_of l own) ram
  own_aif = is_aif base rel ram l a vs placed needs h.entered applies

  pub aif_made : IsAif base rel (contents_at l a vs) (items_in l.objects) (given_of l p) ram
  aif_made = subst (λ (z : Placement). IsAif base rel (contents_at l a vs) (items_in l.objects) (given_of l z) ram) (sym is_own) own_aif

  pub seen_made : IsSeen base rel ram l a vs p (view_at base rel l a vs p)
  seen_made = subst (λ (z : Placement). IsSeen base rel ram l a vs z (view_at base rel l a vs z)) (sym is_own) (is_seen base rel ram l a vs placed needs h.entered applies)

  -- ---- its image

  abbrev rs : List Planned
  rs = regions_of plan

  region_lengths : map (λ (r : Region). r.length) p.regions ≡ map length_of rs
  region_lengths = ap (λ (z : Placement). map (λ (r : Region). r.length) z.regions) is_own

  region_sizes : map (λ (r : Region). r.length + r.zero) p.regions ≡ map execution_size rs
  region_sizes = ap (λ (z : Placement). map (λ (r : Region). r.length + r.zero) z.regions) is_own

  same_held : filled (given_in (link_of l) p) plan (zeros 0x80) ≡ filled (given_of l p) plan (zeros 0x80)
  same_held = λ i r t. each r t i
    where
      each : (r : Planned) (t : Thing) → filled (given_in (link_of l) p) plan (zeros 0x80) r t ≡ filled (given_of l p) plan (zeros 0x80) r t
      each r Header = refl
      each r (AnArea x) = refl
      each r (AVeneer target thumb) = refl
      each r (Startup words) = refl

  pub parts_made : HasParts plan l p
  parts_made = record {
    loads = fronted_load (kind.Aif base rel) ram l a vs p h 0 ∙ ap (λ (held : Filling). flat_map (region_bytes held) rs) same_held;
    lengths = region_lengths;
    sizes = region_sizes;
    parts = ap (λ (z : Placement). unwrap_or (option_map (λ (r : Region). r.length) (slice_get z.regions 0)) 0 + unwrap_or (option_map (λ (r : Region). r.length) (slice_get z.regions 1)) 0) is_own;
    zero = ap (λ (z : Placement). unwrap_or (option_map (λ (r : Region). r.length + r.zero) (slice_get z.regions 2)) 0) is_own;
  }

pub made_is_aif : MadeIsAif
made_is_aif base rel ram l a vs p h = aif_made base rel ram l a vs p h

pub made_has_parts : MadeHasParts
made_has_parts base rel ram l a vs p h = parts_made base rel ram l a vs p h

pub made_is_seen : MadeIsSeen
made_is_seen base rel ram l a vs p h = seen_made base rel ram l a vs p h

-- ---- one that can't be moved

module _ (base : ℕ) (ram : Option (List Range32)) (l : Linked) (a : Assigned) (vs : List Veneer) (p : Placement) (h : IsMade (kind.Aif base false) ram l a vs p) where
  abbrev c : Contents
  c = contents_at l a vs

  abbrev q : Placement
  q = placement_of (aif_plan base false c)

  abbrev g : Given
  g = given_of l q

  abbrev seen : ByteMap
  seen = view_at base false l a vs q

  linked : IsPlacedLink (kind.Aif base false) ram l a.regions vs
  linked = placed base false ram l a vs p h

  fixed : IsFixedImage base c (items_in l.objects) g ram seen
  fixed = record {
    image = own_aif base false ram l a vs p h;
    shows = is_shown base false ram l a vs linked (needs base false ram l a vs p h) h.entered (applies base false ram l a vs p h);
  }

  entry_veneer : l.entry.thumb ≡ true → HasEntryVeneer base c g seen
  entry_veneer thumb =
      let low = fixed.image.call_low in
      let at : g.call ≡ base + (g.call - base) = omega (arith, low) in
      let v = enters base false ram l a vs linked (needs base false ram l a vs p h) h.entered (applies base false ram l a vs p h) thumb (g.call - base) at in
      let inside = v.inside in
      record { inside = omega (arith, at, inside); shows = subst (λ (n : ℕ). Holds seen n (bytes_of_words (0xE59FC000 ∷ 0xE12FFF1C ∷ g.entry ∷ []))) (sym at) v.shows; small = v.small; fair = v.fair }

  abbrev FixedBoots : Placement → Type 0
  FixedBoots z =
      Boots (file_at (fixed_aif (aif_plan base false c) base (given_of l z)) base) (view_at base false l a vs z) (covers (base + parts_size (aif_plan base false c)) (zero_size (aif_plan base false c))) base
      (aif_bound 0 (zero_size (aif_plan base false c))) (entry_at l z + flag l.entry.thumb)

  own_boots : FixedBoots q
  own_boots = go l.entry.thumb refl
    where
      go : (b : Bool) → l.entry.thumb ≡ b → FixedBoots q
      go false arm =
          let none : flag l.entry.thumb ≡ 0 = ap flag arm in
          let call : g.call ≡ target_in q (home_of l.entry) = ap (λ (z : Bool). called z l q) arm in
          let entry : g.entry ≡ g.call = omega (arith, none, call) in
          fixed_image_boots.in_arm base c (items_in l.objects) g ram seen fixed entry
      go true thumb = fixed_image_boots.by_veneer base c (items_in l.objects) g ram seen fixed (entry_veneer thumb)

  pub fixed_boots : FixedBoots p
  fixed_boots = subst FixedBoots (sym (is_own base false ram l a vs p h)) own_boots

pub made_fixed_boots : MadeFixedBoots
made_fixed_boots base ram l a vs p h = fixed_boots base ram l a vs p h

-- ---- one that can be moved

module _ (base : ℕ) (ram : Option (List Range32)) (l : Linked) (a : Assigned) (vs : List Veneer) (p : Placement) (h : IsMade (kind.Aif base true) ram l a vs p) (fair : not_relocatable l p ≡ None) where
  abbrev contents : Contents
  contents = contents_at l a vs

  abbrev here : Plan
  here = aif_plan base true contents

  abbrev home : Home
  home = home_of l.entry

  abbrev p0 : Placement
  p0 = placement_of (aif_plan 0 true contents)

  abbrev offset : ℕ
  offset = called l.entry.thumb l p - base

  image : IsAif base true contents (items_in l.objects) (given_of l p) ram
  image = aif_made base true ram l a vs p h

  linked_here : IsPlacedLink (kind.Aif base true) ram l a.regions vs
  linked_here = placed base true ram l a vs p h

  its_needs : vs ≡ veneers_of (link_of l) a.regions true
  its_needs = needs base true ram l a vs p h

  call_is : base + offset ≡ called l.entry.thumb l p
  call_is = let low = image.call_low in omega (arith, low)

  same_given : given_at base l p offset ≡ given_of l p
  same_given = λ i. record (given_in (link_of l) p) { call = call_is i }

  same_file : moving_file base l a vs p offset ≡ aif_at base l a vs p
  same_file = ap (λ (z : Given). relocatable_aif here base z (shifts_of (link_of l) p)) same_given

  -- ---- where areas and veneers of the entry stand

  known : is_some (find (is_area l.entry.object l.entry.area) p0.areas) ≡ true
  known = entry_there l p0 (whole_image base ram l a vs p h) h.entered

  abbrev x : ℕ
  x = base_in p0 l.entry.object l.entry.area

  base_at : (f : ℕ) → bases_of (aif_plan f true contents) l.entry.object l.entry.area ≡ x + f
  base_at f =
      sym ((has_places (aif_plan f true contents)).bases l.entry.object l.entry.area)
      ∙ ap (λ (z : Placement). base_in z l.entry.object l.entry.area) (aif_placement f contents) ∙ base_moves f p0 (whole_image base ram l a vs p h).boot l.entry.object l.entry.area known

  at_own : entry_at l p ≡ x + base + l.entry.offset
  at_own =
      ap (entry_at l) (is_own base true ram l a vs p h) ∙ entry_is base true ram l a vs linked_here its_needs h.entered ∙ ap (λ n. n + l.entry.offset) (base_at base)

  veneer_at : (f : ℕ) → veneers_at (placement_of (aif_plan f true contents)) 0 home true ≡ option_map (λ y. y + f) (veneers_at p0 0 home true)
  veneer_at f = ap (λ (z : Placement). veneers_at z 0 home true) (aif_placement f contents) ∙ veneers_move f p0 0 home true

  -- ---- at another base

  module _ (to : ℕ) (room : HasRoomAt (aif_at base l a vs p) (parts_size here) (zero_size here) to) where
    abbrev there : Plan
    there = aif_plan to true contents

    abbrev other : Placement
    other = placement_at to l a vs

    parts_same : parts_size there ≡ parts_size here
    parts_same = parts_at to contents ∙ sym (parts_at base contents)

    zero_same : zero_size there ≡ zero_size here
    zero_same = zero_at to contents ∙ sym (zero_at base contents)

    linked_there : IsPlacedLink (kind.Aif to true) None l a.regions vs
    linked_there =
        let whole = room.whole in
        let end = room.zero_room in
        let parts = parts_same in
        let cleared = zero_same in
        record {
          valid = h.valid;
          loads = (whole, tt);
          bases = (whole, (refl, (refl, tt)));
          assigned = record { all = linked_here.assigned.all; each = linked_here.assigned.each };
          accepted = accepted_there base contents (items_in l.objects) (given_of l p) ram image to whole (omega (arith, end, parts, cleared));
        }

    applied_there : AreApplied there l (region_number (objects_in l.objects) other) (given_in (link_of l) other)
    applied_there = moved_is_applied base ram l a vs p h fair to room.whole linked_there

    pub seen_there : IsSeen to true None l a vs other (view_at to true l a vs other)
    seen_there = is_seen to true None l a vs linked_there its_needs h.entered applied_there

    pub entry_moves : entry_at l other ≡ to + (entry_at l p - base)
    entry_moves =
        let first = at_own in
        let second : entry_at l other ≡ x + to + l.entry.offset = entry_is to true None l a vs linked_there its_needs h.entered ∙ ap (λ n. n + l.entry.offset) (base_at to) in
        let low = entry_low base true ram l a vs linked_here its_needs h.entered in
        omega (arith, first, second, low)

    call_moves : called l.entry.thumb l other ≡ to + offset
    call_moves = go l.entry.thumb refl
      where
        go : (b : Bool) → l.entry.thumb ≡ b → called l.entry.thumb l other ≡ to + (called l.entry.thumb l p - base)
        go false arm =
            ap (λ (z : Bool). called z l other) arm ∙ entry_moves ∙ ap (λ (z : Bool). to + (called z l p - base)) (sym arm)
        go true thumb =
            ap (λ (z : Bool). called z l other) thumb ∙ ap (λ (o : Option ℕ). unwrap_or o 0) (veneer_at to)
            ∙ by (veneers_at p0 0 home true) refl ∙ ap (λ (z : Bool). to + (called z l p - base)) (sym thumb)
          where
            own_call : called true l p ≡ unwrap_or (option_map (λ y. y + base) (veneers_at p0 0 home true)) 0
            own_call = ap (called true l) (is_own base true ram l a vs p h) ∙ ap (λ (o : Option ℕ). unwrap_or o 0) (veneer_at base)

            by : (o : Option ℕ) → veneers_at p0 0 home true ≡ o → unwrap_or (option_map (λ y. y + to) (veneers_at p0 0 home true)) 0 ≡ to + (called true l p - base)
            by None e =
                let none : veneers_at (placement_of here) 0 home true ≡ None = veneer_at base ∙ ap (option_map (λ y. y + base)) e in
                absurd (apart _ (veneers_at (placement_of here) 0 home true) none (veneer_is base true ram l a vs linked_here its_needs h.entered thumb))
            by (Some y) e =
                let own : called true l p ≡ y + base = own_call ∙ ap (λ (o : Option ℕ). unwrap_or (option_map (λ z. z + base) o) 0) e in
                ap (λ (o : Option ℕ). unwrap_or (option_map (λ z. z + to) o) 0) e ∙ omega (arith, own)

    same_there : given_at to l other offset ≡ given_of l other
    same_there = λ i. record (given_in (link_of l) other) { call = sym call_moves i }

    pub shows_there : IsViewAt to l a vs offset (view_at to true l a vs other)
    shows_there = subst (λ (z : Given). IsView there (with_header false there to z) (view_at to true l a vs other)) (sym same_there) seen_there.shows

    -- the file becomes that view
    pub becomes_there : ShowsImage (aif_at base l a vs p) (parts_size there) (zero_size there) base (moving_list base l a vs p) to (view_at to true l a vs other)
    becomes_there =
        let file : ShowsImage (moving_file base l a vs p offset) (parts_size here) (zero_size here) base (moving_list base l a vs p) to (view_at to true l a vs other) =
        moved_image_shows base to ram l a vs p (items_in l.objects) offset (view_at to true l a vs other) (record { made = h; movable = fair })
        (subst (λ (z : Given). IsAif base true contents (items_in l.objects) z ram) (sym same_given) image) room.whole room.zero_room shows_there in
        subst (λ (n : ℕ). ShowsImage (aif_at base l a vs p) (parts_size there) n base (moving_list base l a vs p) to (view_at to true l a vs other)) (sym zero_same)
        (subst (λ (n : ℕ). ShowsImage (aif_at base l a vs p) n (zero_size here) base (moving_list base l a vs p) to (view_at to true l a vs other)) (sym parts_same)
        (subst (λ (f : List ℕ). ShowsImage f (parts_size here) (zero_size here) base (moving_list base l a vs p) to (view_at to true l a vs other)) same_file file))

    pub enters_there : l.entry.thumb ≡ true → EntersByVeneer (parts_size here) offset (to + (entry_at l p - base) + flag l.entry.thumb) to (view_at to true l a vs other)
    enters_there thumb =
        subst (λ (n : ℕ). EntersByVeneer n offset (to + (entry_at l p - base) + flag l.entry.thumb) to (view_at to true l a vs other)) parts_same
        (subst (λ (n : ℕ). EntersByVeneer (parts_size there) offset (n + flag l.entry.thumb) to (view_at to true l a vs other)) entry_moves
        (enters to true None l a vs linked_there its_needs h.entered applied_there thumb offset call_moves))

  -- ---- from every base

  abbrev views : ℕ → ByteMap
  views = λ to. view_at to true l a vs (placement_at to l a vs)

  as_room : (to : ℕ) → HasRoomAt (moving_file base l a vs p offset) (parts_size here) (zero_size here) to → HasRoomAt (aif_at base l a vs p) (parts_size here) (zero_size here) to
  as_room to r = subst (λ (file : List ℕ). HasRoomAt file (parts_size here) (zero_size here) to) same_file r

  moving : IsMovingImage base ram l a vs p (items_in l.objects) offset views
  moving = record {
    made = h;
    movable = fair;
    image = subst (λ (z : Given). IsAif base true contents (items_in l.objects) z ram) (sym same_given) image;
    shows = λ to r. shows_there to (as_room to r);
  }

  abbrev AllBoot : List ℕ → (ℕ → ℕ) → Type 0
  AllBoot file entry = BootsAif file (parts_size here) (zero_size here) views (aif_bound (length (moving_list base l a vs p)) (zero_size here)) entry

  pub moving_boots : AllBoot (aif_at base l a vs p) (λ to. to + (entry_at l p - base) + flag l.entry.thumb)
  moving_boots = subst (λ (file : List ℕ). AllBoot file (λ to. to + (entry_at l p - base) + flag l.entry.thumb)) same_file (go l.entry.thumb refl)
    where
      go : (b : Bool) → l.entry.thumb ≡ b → AllBoot (moving_file base l a vs p offset) (λ to. to + (entry_at l p - base) + flag l.entry.thumb)
      go false arm =
          let none : flag l.entry.thumb ≡ 0 = ap flag arm in
          let same : offset ≡ entry_at l p - base = ap (λ (z : Bool). called z l p - base) arm in
          let each : (to : ℕ) → to + offset ≡ to + (entry_at l p - base) + flag l.entry.thumb = λ to. omega (arith, none, same) in
          subst (AllBoot (moving_file base l a vs p offset)) (λ i to. each to i) (moved_image_boots.in_arm base ram l a vs p (items_in l.objects) offset views moving)
      go true thumb =
          moved_image_boots.by_veneer base ram l a vs p (items_in l.objects) offset views (λ to. to + (entry_at l p - base) + flag l.entry.thumb) moving (λ to r. enters_there to (as_room to r) thumb)

  -- its file has the relocator and the list behind its parts
  module _ (to : ℕ) (room : HasRoomAt (aif_at base l a vs p) (parts_size here) (zero_size here) to) where
    pub size_there : length (aif_at base l a vs p) ≡ parts_size (aif_plan to true contents) + 60 + 4 * length (moving_list base l a vs p) + 4
    size_there =
        sym (ap length same_file) ∙ file_size base ram l a vs p (items_in l.objects) offset views moving
        ∙ ap (λ (n : ℕ). n + 60 + 4 * length (moving_list base l a vs p) + 4) (sym (parts_same to room))

    pub relocator_there : IsRelocatable (shifted_file (aif_at base l a vs p) to) to (parts_size (aif_plan to true contents)) (zero_size (aif_plan to true contents)) base offset (moving_list base l a vs p)
    relocator_there =
        let file : IsRelocatable (shifted_file (moving_file base l a vs p offset) to) to (parts_size here) (zero_size here) base offset (moving_list base l a vs p) =
        relocatable_at base ram l a vs p (items_in l.objects) offset views moving to in
        subst (λ (n : ℕ). IsRelocatable (shifted_file (aif_at base l a vs p) to) to (parts_size (aif_plan to true contents)) n base offset (moving_list base l a vs p)) (sym (zero_same to room))
        (subst (λ (n : ℕ). IsRelocatable (shifted_file (aif_at base l a vs p) to) to n (zero_size here) base offset (moving_list base l a vs p)) (sym (parts_same to room))
        (subst (λ (f : List ℕ). IsRelocatable (shifted_file f to) to (parts_size here) (zero_size here) base offset (moving_list base l a vs p)) same_file file))

pub moved_is_seen : MovedIsSeen
moved_is_seen base to ram l a vs p h fair room = seen_there base ram l a vs p h fair to room

pub made_moving_boots : MadeMovingBoots
made_moving_boots base ram l a vs p h fair = moving_boots base ram l a vs p h fair
