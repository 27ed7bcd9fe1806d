-- The things of a relocatable AIF at another base.
use Rattle.std.proofs.Common.{◌≡◌, ◌≢◌, ◌⊎◌, inl, inr, ℕ, ◌+◌, ◌-◌, ◌^◌, ◌<◌, ◌≤◌, Bool, true, false, ◌&&◌, ◌==◌, if◌then◌else◌, List, [], ◌∷◌, length, refl, sym, ap, ◌∙◌, arith, eqb-true, eq-eqb, leb-true, Option, Some, None}
use Rattle.std.specs.Prelude.{nat_le, slice_get, is_some, sum_by}
use Rattle.std.specs.List.{find, flat_map}
use Rattle.std.specs.Option.{option_map, option_and_then}
use Rattle.std.proofs.lemmas.Bool.{and_parts, le-leb, ne_eqb}
use Rattle.std.proofs.lemmas.List.Sums.{sum_by-cons, sum_by-append}
use Rattle.std.proofs.lemmas.Option.{slice_get-map}
use Rattle.base_lemmas.proofs.BaseLemmas.{came_through, same}
use Rattle.sdt_word.specs.Numbers.{bit, flag}
use Rattle.aof_object.specs.declared.records.Area.{Area}
use Rattle.aof_object.specs.declared.records.Object.{Object}
use Rattle.aof_object.specs.declared.records.Reloc.{Reloc}
use Rattle.aof_object.specs.Validity.{Holds as HoldsArea, IsValid}
use Rattle.patch_model.specs.Fields.{Home, field_of, is_field, kind_of, is_same_kind, size_of as field_size}
use Rattle.place_model.specs.Items.{Item}
use Rattle.place_model.specs.Plans.{Planned, Plan, regions_of, stood_in}
use Rattle.place_model.specs.Things.{Thing, Header, AnArea, AVeneer, Startup, size_of, Stood}
use Rattle.place_model.proofs.ListLemmas.{all_at}
use Rattle.link_model.specs.declared.placing.PlacedArea.{PlacedArea}
use Rattle.link_model.specs.declared.placing.Placement.{Placement}
use Rattle.link_model.specs.declared.selection.Linked.{Linked}
use Rattle.link_model.specs.declared.selection.Named.{Named}
use Rattle.link_model.specs.Members.{Link, link_of, objects_in}
use Rattle.link_model.specs.RegionValues.{area_of}
use Rattle.link_items.specs.LinkedItems.{item_of, item_in, name_of}
use Rattle.link_place.specs.Placed.{areas_of, veneers_of, placement_of}
use Rattle.link_place.specs.Placed as placing
use Rattle.link_values.specs.Placed.{is_area}
use Rattle.link_apply.specs.Flaws.{apply_refusal}
use Rattle.link_values.specs.Shifts.{names_moving, gains, losses, word_shifts, shifts_in, area_shifts, veneer_shifts, shifts_at, not_relocatable}
use Rattle.link_laws.specs.AifJoins.{shift_between, shifted_words}
use Rattle.link_laws.specs.Joins.{given_in}
use Rattle.link_laws.proofs.ItemLemmas.{IsOwn}
use Rattle.link_laws.proofs.Shifts.Areas.{first_found, filter_none, equal_kind, word_at}
use Rattle.link_laws.proofs.Shifts.Linked as linked
use Rattle.link_laws.proofs.Shifts.Linked.{IsWholeImage}
use Rattle.link_laws.proofs.Shifts.Placement.{moved_placement}
use Rattle.link_laws.proofs.Shifts.Spread.{IsInside}
use Rattle.link_laws.proofs.Shifts.Veneers.{own_shifts}
use Rattle.link_laws.proofs.Shifts.Words.{shifted_same}

-- ---- how often the words of a thing are shifted

abbrev pub count_thing : Link → Placement → Thing → ℕ → ℕ → ℕ
count_thing l p (AnArea i) address x = area_shifts l p x (record { area = record { object = i.object; area = i.area }; region = 0; address = address })
count_thing l p (AVeneer target thumb) address x = flag (thumb && address + 8 == x)
count_thing l p _ address x = 0

abbrev pub count_of : Link → Placement → Stood → ℕ → ℕ
count_of l p s x = count_thing l p s.thing s.address x

module _ (l : Link) (p : Placement) (x : ℕ) where
  of_thing : (n : ℕ) (s : Stood) → sum_by (area_shifts l p x) (placing.area_of n s.thing s.address) + sum_by (veneer_shifts x) (placing.veneer_of n s.thing s.address) ≡ count_of l p s x
  of_thing n s = go s.thing
    where
      go : (t : Thing) → sum_by (area_shifts l p x) (placing.area_of n t s.address) + sum_by (veneer_shifts x) (placing.veneer_of n t s.address) ≡ count_thing l p t s.address x
      go Header = refl
      go (Startup words) = refl
      go (AnArea i) =
          let only = sum_by-cons (area_shifts l p x) (record { area = record { object = i.object; area = i.area }; region = n; address = s.address }) [] in
          ap (λ z. z + 0) only ∙ omega arith
      go (AVeneer target thumb) =
          let only = sum_by-cons (veneer_shifts x) (record {
            veneer = record { region = n; area = record { object = target.object; area = target.area }; offset = target.offset; thumb = thumb };
            address = s.address;
          }) [] in
          ap (λ z. 0 + z) only ∙ omega arith

  of_things : (n : ℕ) (ss : List Stood) → sum_by (area_shifts l p x) (flat_map (λ s. placing.area_of n s.thing s.address) ss) + sum_by (veneer_shifts x) (flat_map (λ s. placing.veneer_of n s.thing s.address) ss)
      ≡ sum_by (λ s. count_of l p s x) ss
  of_things n [] = refl
  of_things n (s ∷ ss) =
      let here = of_thing n s in
      let rest = of_things n ss in
      let areas = sum_by-append (area_shifts l p x) (placing.area_of n s.thing s.address) (flat_map (λ z. placing.area_of n z.thing z.address) ss) in
      let some = sum_by-append (veneer_shifts x) (placing.veneer_of n s.thing s.address) (flat_map (λ z. placing.veneer_of n z.thing z.address) ss) in
      let both = sum_by-cons (λ z. count_of l p z x) s ss in
      plain _ _ _ _ _ _ _ _ _ areas some both here rest
    where
      plain : (ab a b cd c d e f g : ℕ) → ab ≡ a + b → cd ≡ c + d → e ≡ f + g → a + c ≡ f → b + d ≡ g → ab + cd ≡ e
      plain ab a b cd c d e f g one two three four five = omega (arith, one, two, three, four, five)

  of_regions : (rs : List Planned) → sum_by (area_shifts l p x) (flat_map areas_of rs) + sum_by (veneer_shifts x) (flat_map veneers_of rs) ≡ sum_by (λ s. count_of l p s x) (flat_map stood_in rs)
  of_regions [] = refl
  of_regions (r ∷ rs) =
      let here = of_things r.number (stood_in r) in
      let rest = of_regions rs in
      let areas = sum_by-append (area_shifts l p x) (areas_of r) (flat_map areas_of rs) in
      let some = sum_by-append (veneer_shifts x) (veneers_of r) (flat_map veneers_of rs) in
      let both = sum_by-append (λ z. count_of l p z x) (stood_in r) (flat_map stood_in rs) in
      plain _ _ _ _ _ _ _ _ _ areas some both here rest
    where
      plain : (ab a b cd c d e f g : ℕ) → ab ≡ a + b → cd ≡ c + d → e ≡ f + g → a + c ≡ f → b + d ≡ g → ab + cd ≡ e
      plain ab a b cd c d e f g one two three four five = omega (arith, one, two, three, four, five)

-- those of the placement of a plan
pub counted_all : (l : Link) (p : Placement) (q : Plan) → p ≡ placement_of q → (x : ℕ) → shifts_at l p x ≡ sum_by (λ s. count_of l p s x) (flat_map stood_in (regions_of q))
counted_all l p q is x = ap (λ (z : Placement). sum_by (area_shifts l p x) z.areas + sum_by (veneer_shifts x) z.veneers) is ∙ of_regions l p x (regions_of q)

-- ---- areas

module _ (l : Linked) (p : Placement) (w : IsWholeImage l p) (base : ℕ) (sound : apply_refusal l (moved_placement base p) ≡ None) (fair : not_relocatable l (moved_placement base p) ≡ None) where
  abbrev q : Placement
  q = moved_placement base p

  module _ (own : ℕ) (o : Named Object) (here : slice_get l.objects own ≡ Some o) (area : ℕ) (a : Area) (there : slice_get o.value.areas area ≡ Some a) where
    placed : (at : PlacedArea) × (find (is_area own area) p.areas ≡ Some at)
    placed = go (find (is_area own area) p.areas) refl (w.there own area o a here there)
      where
        go : (z : Option PlacedArea) → find (is_area own area) p.areas ≡ z → is_some z ≡ true → (at : PlacedArea) × (find (is_area own area) p.areas ≡ Some at)
        go None e f = absurd cc
        go (Some at) e f = (at, e)

    -- behind its bytes it has no word
    none_behind : (place : ℕ) → length a.bytes ≤ place → word_shifts (names_moving (link_of l) q own) a.relocs place ≡ 0
    none_behind place behind = go (find (is_field (word_at place)) a.relocs) refl
      where
        go : (z : Option Reloc) → find (is_field (word_at place)) a.relocs ≡ z → word_shifts (names_moving (link_of l) q own) a.relocs place ≡ 0
        go None e = ap (λ (xs : List Reloc). gains (names_moving (link_of l) q own) xs - losses (names_moving (link_of l) q own) xs) (filter_none (is_field (word_at place)) a.relocs e)
        go (Some r) e =
            let f = first_found (is_field (word_at place)) a.relocs r e in
            let parts = and_parts ((field_of r).place == place) (is_same_kind (kind_of r) (word_at place).kind) f.passes in
            let at = eqb-true (field_of r).place place parts.0 in
            let size : field_size (field_of r).kind ≡ 4 = ap field_size (equal_kind (kind_of r) (word_at place).kind parts.1) in
            let within = linked.within_there l p w base sound fair own o here area a there placed.0 placed.1 f.number r f.there in
            absurd (omega (arith, behind, at, size, within))

    counted_at : (address x : ℕ) → area_shifts (link_of l) q x (record { area = record { object = own; area = area }; region = 0; address = address })
        ≡ (if nat_le address x then word_shifts (names_moving (link_of l) q own) a.relocs (x - address) else 0)
    counted_at address x =
        let object : slice_get (objects_in l.objects) own ≡ Some o.value = slice_get-map (λ (z : Named Object). z.value) l.objects own ∙ ap (option_map (λ (z : Named Object). z.value)) here in
        let own_area : area_of (objects_in l.objects) (record { object = own; area = area }) ≡ Some a = ap (option_and_then (λ (z : Object). slice_get z.areas area)) object ∙ there in
        ap (shifts_in (link_of l) q x (record { area = record { object = own; area = area }; region = 0; address = address })) own_area

    counted_inside : (address x size : ℕ) → length a.bytes ≤ size → (x < address) ⊎ (address + size ≤ x)
        → area_shifts (link_of l) q x (record { area = record { object = own; area = area }; region = 0; address = address }) ≡ 0
    counted_inside address x size fits off = counted_at address x ∙ go off
      where
        go : (x < address) ⊎ (address + size ≤ x) → (if nat_le address x then word_shifts (names_moving (link_of l) q own) a.relocs (x - address) else 0) ≡ 0
        go (inr behind) =
            let none = none_behind (x - address) (omega (arith, behind, fits)) in
            either (nat_le address x) none
          where
            either : (b : Bool) → word_shifts (names_moving (link_of l) q own) a.relocs (x - address) ≡ 0 → (if b then word_shifts (names_moving (link_of l) q own) a.relocs (x - address) else 0) ≡ 0
            either true none = none
            either false none = refl
        go (inl before) = by_test (nat_le address x) refl
          where
            by_test : (b : Bool) → nat_le address x ≡ b → (if b then word_shifts (names_moving (link_of l) q own) a.relocs (x - address) else 0) ≡ 0
            by_test false e = refl
            by_test true e = let le = leb-true address x e in absurd (omega (arith, before, le))

    -- its bytes, wherever it is counted from
    shifted_at : (to : ℕ) → base ≤ 2 ^ 32 → (address : ℕ)
        → (given_in (link_of l) (moved_placement to p)).area own area
        ≡ shifted_words (shift_between base to) (λ x. area_shifts (link_of l) q x (record { area = record { object = own; area = area }; region = 0; address = address })) address ((given_in (link_of l) q).area own area)
    shifted_at to low address =
        linked.area_shifts l p w base sound fair own o here area a there placed.0 placed.1 to low
        ∙ shifted_same (shift_between base to) (word_shifts (names_moving (link_of l) q own) a.relocs)
        (λ x. area_shifts (link_of l) q x (record { area = record { object = own; area = area }; region = 0; address = address })) 0 address ((given_in (link_of l) q).area own area)
        (λ i lt.
        let test : nat_le address (address + i) ≡ true = le-leb address (address + i) (omega arith) in
        let back : address + i - address ≡ 0 + i = omega arith in
        sym (counted_at address (address + i)
        ∙ ap (λ (b : Bool). if b then word_shifts (names_moving (link_of l) q own) a.relocs (address + i - address) else 0) test
        ∙ ap (word_shifts (names_moving (link_of l) q own) a.relocs) back))

  -- ---- an area that is placed as an item

  record OfItem (i : Item) : Type 0 where
    object : Named Object
    area : Area
    here : slice_get l.objects i.object ≡ Some object
    there : slice_get object.value.areas i.area ≡ Some area
    fits : length area.bytes ≤ i.size

  of_item : (i : Item) → IsOwn l.objects i → OfItem i
  of_item i own =
      let (o, at, is) = came_through (item_in (name_of i)) (slice_get l.objects i.object) i own in
      go o (slice_get o.value.areas i.area) refl at is
    where
      go : (o : Named Object) (x : Option Area) → slice_get o.value.areas i.area ≡ x → slice_get l.objects i.object ≡ Some o → option_map (item_of i.object o.«module» i.area) x ≡ Some i → OfItem i
      go o None e at is = absurd cc
      go o (Some a) e at is =
          let item : item_of i.object o.«module» i.area a ≡ i = same (item_of i.object o.«module» i.area a) i is in
          let valid : IsValid o.value = all_at (λ z. IsValid z.value) l.objects i.object o w.valid at in
          let holds : HoldsArea (length o.value.areas) (length o.value.symbols) a = all_at (HoldsArea (length o.value.areas) (length o.value.symbols)) o.value.areas i.area a valid.contents e in
          let size : a.size ≡ i.size = ap (λ (z : Item). z.size) item in
          record { object = o; area = a; here = at; there = e; fits = stored_fits (bit a.attributes 12 == 1) (length a.bytes) a.size i.size holds.bytes size }
        where
          stored_fits : (b : Bool) (n m k : ℕ) → n ≡ (if b then 0 else m) → m ≡ k → n ≤ k
          stored_fits true n m k e f = omega (arith, e)
          stored_fits false n m k e f = omega (arith, e, f)

  pub area_inside : (i : Item) (address : ℕ) → IsOwn l.objects i → IsInside (count_of (link_of l) q) (record { thing = AnArea i; address = address })
  area_inside i address own =
      let f = of_item i own in
      record {
        before = λ x lt. counted_inside i.object f.object f.here i.area f.area f.there address x i.size f.fits (inl lt);
        behind = λ x le. counted_inside i.object f.object f.here i.area f.area f.there address x i.size f.fits (inr le);
      }

  pub area_shifted : (i : Item) (address to : ℕ) → base ≤ 2 ^ 32 → IsOwn l.objects i
      → (given_in (link_of l) (moved_placement to p)).area i.object i.area
      ≡ shifted_words (shift_between base to) (count_of (link_of l) q (record { thing = AnArea i; address = address })) address ((given_in (link_of l) q).area i.object i.area)
  area_shifted i address to low own = let f = of_item i own in shifted_at i.object f.object f.here i.area f.area f.there to low address

-- ---- veneers

module _ (l : Link) (q : Placement) (target : Home) (thumb : Bool) (address : ℕ) where
  pub veneer_inside : IsInside (count_of l q) (record { thing = AVeneer target thumb; address = address })
  veneer_inside = record { before = before thumb; behind = behind thumb }
    where
      before : (b : Bool) (x : ℕ) → x < address → flag (b && address + 8 == x) ≡ 0
      before false x lt = refl
      before true x lt = ap flag (ne_eqb (address + 8) x (λ e. absurd (omega (arith, lt, e))))

      behind : (b : Bool) (x : ℕ) → address + size_of (AVeneer target b) ≤ x → flag (b && address + 8 == x) ≡ 0
      behind false x le = refl
      behind true x le = ap flag (ne_eqb (address + 8) x (λ e. absurd (omega (arith, le, e))))

  pub veneer_counted : (i : ℕ) → own_shifts thumb (0 + i) ≡ count_of l q (record { thing = AVeneer target thumb; address = address }) (address + i)
  veneer_counted i = go thumb
    where
      by_place : (i : ℕ) → (i ≡ 8) ⊎ (i ≢ 8) → (8 == 0 + i) ≡ (address + 8 == address + i)
      by_place i (inl e) = eq-eqb 8 (0 + i) (omega (arith, e)) ∙ sym (eq-eqb (address + 8) (address + i) (omega (arith, e)))
      by_place i (inr n) = ne_eqb 8 (0 + i) (λ e. n (omega (arith, e))) ∙ sym (ne_eqb (address + 8) (address + i) (λ e. n (omega (arith, e))))

      decided : (i : ℕ) → (i ≡ 8) ⊎ (i ≢ 8)
      decided i = by_test (i == 8) refl
        where
          by_test : (b : Bool) → (i == 8) ≡ b → (i ≡ 8) ⊎ (i ≢ 8)
          by_test true e = inl (eqb-true i 8 e)
          by_test false e = inr (λ h. let t = eq-eqb i 8 h in absurd cc)

      go : (b : Bool) → flag (b && 8 == 0 + i) ≡ flag (b && address + 8 == address + i)
      go false = refl
      go true = ap flag (by_place i (decided i))
