-- What a view of a plan shows of linked objects, and where the program begins.
use Rattle.std.proofs.Common.{◌≡◌, ℕ, zero, suc, ◌+◌, ◌*◌, ◌%◌, ◌^◌, ◌<◌, ◌≤◌, Bool, true, false, if◌then◌else◌, List, [], ◌∷◌, refl, ap, subst, ◌∙◌, arith, Option, Some, None}
use Rattle.std.specs.Prelude.{slice_get, slice_index, IsSomeAnd}
use Rattle.std.specs.Option.{option_map}
use Rattle.std.proofs.lemmas.Option.{slice_get-map}
use Rattle.sdt_word.specs.Bytes.{bytes_of}
use Rattle.sdt_word.specs.declared.ranges.Range32.{Range32}
use Rattle.aof_object.specs.declared.areas.AreaHead.{AreaHead}
use Rattle.aof_object.specs.declared.records.Area.{Area}
use Rattle.aof_object.specs.declared.records.Entry.{Entry}
use Rattle.aof_object.specs.Checks.{left_over}
use Rattle.aof_object.specs.Validity.{IsValid, IsEntered, head_of, heads}
use Rattle.boot_code.specs.Boots.{ByteMap, HoldsWord}
use Rattle.boot_code.specs.Maps.{Holds, bytes_of_words}
use Rattle.boot_code.proofs.MapLemmas.{back, front}
use Rattle.place_model.specs.declared.scatter.Kind.{Kind}
use Rattle.place_model.specs.declared.scatter.Kind.TheVariants as kind
use Rattle.place_model.specs.Plans.{Plan}
use Rattle.place_model.specs.Things.{gap}
use Rattle.place_model.proofs.ListLemmas.{all_at}
use Rattle.image_model.specs.AifFiles.{header_words}
use Rattle.image_model.specs.Regions.{Given, filled}
use Rattle.image_model.specs.Views.{IsView}
use Rattle.image_laws.proofs.ViewLemmas.{view_things}
use Rattle.link_model.specs.declared.placing.Assigned.{Assigned}
use Rattle.link_model.specs.declared.placing.Veneer.{Veneer}
use Rattle.link_model.specs.declared.selection.Linked.{Linked}
use Rattle.link_model.specs.Members.{link_of}
use Rattle.link_model.specs.Veneers.{veneers_of}
use Rattle.link_items.specs.LinkedItems.{has_header}
use Rattle.link_place.specs.Placed.{placement_of}
use Rattle.link_values.specs.Placed.{base_in}
use Rattle.link_laws.specs.Joins.{IsEntryOf}
use Rattle.link_laws.specs.Placing.{AreApplied, IsHeaderOf, IsPlacedLink, bases_of, link_plan}
use Rattle.link_laws.specs.Plans.{IsMarked, IsSelection, ViewsAreSeen, entry_by, header_by, numbers_by}
use Rattle.link_laws.proofs.Aif.Entry.{is_called, room}
use Rattle.link_laws.proofs.Made.AddressLemmas.{has_places}
use Rattle.link_laws.proofs.PlacedLemmas.{objects_are_placed}
use Rattle.link_laws.proofs.Plans.Names.{names_mean}
use Rattle.link_laws.proofs.ShownLemmas.{objects_are_shown, ranges_exist}
use Rattle.link_laws.proofs.SizedLemmas.{applied_are_sized}

-- ---- a word among words

word_in : (m : ByteMap) (a : ℕ) (ws : List ℕ) (k w : ℕ) → slice_get ws k ≡ Some w → w < 2 ^ 32 → Holds m a (bytes_of_words ws) → HoldsWord m (a + 4 * k) w
word_in m a [] k w at small h = absurd cc
word_in m a (v ∷ ws) zero w at small h =
    let same : v ≡ w = cc in
    let first : HoldsWord m a w = record { is_word = small; each = λ n lt. (front m a (bytes_of v 4) (bytes_of_words ws) h) n lt ∙ ap (λ (x : ℕ). Some (slice_index (bytes_of x 4) n)) same } in
    subst (λ (x : ℕ). HoldsWord m x w) (omega arith) first
word_in m a (v ∷ ws) (suc k) w at small h =
    subst (λ (x : ℕ). HoldsWord m x w) (omega arith) (word_in m (a + 4) ws k w at small (back m a (bytes_of v 4) (bytes_of_words ws) h))

-- ---- the entry

abbrev Said : Entry → Option AreaHead → Type 0
Said e o = IsSomeAnd o (λ x. (e.offset < x.size) × (left_over x.attributes e.offset ≡ 0))

entry_inside : (areas : List Area) (e : Entry) → IsEntered (heads areas) (Some e) → (a : Area) × (slice_get areas e.area ≡ Some a) × (e.offset < a.size)
entry_inside areas e h = go (slice_get areas e.area) refl (subst (Said e) (slice_get-map head_of areas e.area) h)
  where
    go : (o : Option Area) → slice_get areas e.area ≡ o → Said e (option_map head_of o) → (a : Area) × (slice_get areas e.area ≡ Some a) × (e.offset < a.size)
    go None at x = absurd x
    go (Some a) at x = (a, at, x.0)

module _ (k : Kind) (ram : Option (List Range32)) (l : Linked) (a : Assigned) (vs : List Veneer) (h : IsPlacedLink k ram l a.regions vs) (entered : IsEntryOf l) where
  abbrev plan : Plan
  plan = link_plan k l a.regions vs

  -- its address doesn't wrap
  pub entry_whole : (base_in (placement_of plan) l.entry.object l.entry.area + l.entry.offset) % 2 ^ 32 ≡ entry_by plan l
  entry_whole =
      let entry : Entry = record { area = l.entry.area; offset = l.entry.offset } in
      let valid : IsValid entered.object.value = all_at (λ o. IsValid o.value) l.objects l.entry.object entered.object h.valid entered.at in
      let (area, there, inside) = entry_inside entered.object.value.areas entry (subst (IsEntered (heads entered.object.value.areas)) entered.entry valid.entry) in
      let ends : bases_of plan l.entry.object l.entry.area + area.size ≤ 2 ^ 32 =
      (objects_are_placed k ram l a.regions vs (λ q. None) h l.entry.object entered.object entered.at).ends l.entry.area area there in
      let small : (bases_of plan l.entry.object l.entry.area + l.entry.offset) % 2 ^ 32 ≡ bases_of plan l.entry.object l.entry.area + l.entry.offset = omega (arith, ends, inside) in
      ap (λ (n : ℕ). (n + l.entry.offset) % 2 ^ 32) ((has_places plan).bases l.entry.object l.entry.area) ∙ small

-- ---- the header

header_is : (k : Kind) (p : Plan) (g : Given) → IsHeaderOf k (header_by k p g)
header_is (kind.Scatter s) p g = tt
header_is (kind.Plain base) p g = tt
header_is (kind.Aif base relocatable) p g = refl

module _ (base : ℕ) (rel : Bool) (ram : Option (List Range32)) (l : Linked) (a : Assigned) (vs : List Veneer) (g : Given) (view : ByteMap)
    (h : IsPlacedLink (kind.Aif base rel) ram l a.regions vs) (needed : vs ≡ veneers_of (link_of l) a.regions true) (s : IsSelection l)
    (applied : AreApplied (link_plan (kind.Aif base rel) l a.regions vs) l (numbers_by (link_plan (kind.Aif base rel) l a.regions vs) l.objects) g)
    (shows : IsView (link_plan (kind.Aif base rel) l a.regions vs) (filled g (link_plan (kind.Aif base rel) l a.regions vs) (header_by (kind.Aif base rel) (link_plan (kind.Aif base rel) l a.regions vs) g)) view)
  where
    abbrev its_plan : Plan
    its_plan = link_plan (kind.Aif base rel) l a.regions vs

    abbrev ws : List ℕ
    ws = header_words false its_plan base g.call

    no_gap : (b : Bool) → base + gap (if b then base else 0) 4 base ≡ base
    no_gap true = omega arith
    no_gap false = let whole = h.loads.0 in omega (arith, whole)

    headed : Holds view base (bytes_of_words ws)
    headed =
        let sized = applied_are_sized (kind.Aif base rel) ram l a.regions vs (numbers_by its_plan l.objects) g (header_by (kind.Aif base rel) its_plan g) h applied refl in
        subst (λ (n : ℕ). Holds view n (bytes_of_words ws)) (no_gap rel) (view_things its_plan (filled g its_plan (bytes_of_words ws)) view sized shows).0.0

    small : base < 2 ^ 32
    small =
        let called = is_called base rel ram l a vs h needed s.entered in
        let low = called.low in
        let high = called.high in
        let end = room base rel ram l a vs h needed s.entered in
        omega (arith, low, high, end)

    marked : IsMarked (kind.Aif base rel) view
    marked = (word_in view base ws 1 0xE1A00000 refl (omega arith) headed, word_in view base ws 10 base refl small headed)

is_marked : (k : Kind) (ram : Option (List Range32)) (l : Linked) (a : Assigned) (vs : List Veneer) (g : Given) (view : ByteMap)
    → IsPlacedLink k ram l a.regions vs → vs ≡ veneers_of (link_of l) a.regions (has_header k) → IsSelection l
    → AreApplied (link_plan k l a.regions vs) l (numbers_by (link_plan k l a.regions vs) l.objects) g
    → IsView (link_plan k l a.regions vs) (filled g (link_plan k l a.regions vs) (header_by k (link_plan k l a.regions vs) g)) view → IsMarked k view
is_marked (kind.Scatter s) ram l a vs g view h needed chosen applied shows = tt
is_marked (kind.Plain base) ram l a vs g view h needed chosen applied shows = tt
is_marked (kind.Aif base rel) ram l a vs g view h needed chosen applied shows = marked base rel ram l a vs g view h needed chosen applied shows

-- ---- the law

pub views_are_seen : ViewsAreSeen
views_are_seen k ram l a vs g view h needed chosen meant applied entry called shows = record {
  given = g;
  applied = applied;
  entry = entry;
  called = called;
  shows = shows;
  marked = is_marked k ram l a vs g view h needed chosen applied shows;
  objects = λ own o at. record {
    placed = objects_are_placed k ram l a.regions vs (numbers_by (link_plan k l a.regions vs) l.objects) h own o at;
    ranges = ranges_exist k ram l a.regions vs h own;
    shown = λ region ranges.
        objects_are_shown k ram l a.regions vs (numbers_by (link_plan k l a.regions vs) l.objects) g (header_by k (link_plan k l a.regions vs) g) view h applied
        (header_is k (link_plan k l a.regions vs) g) shows own o at region ranges;
  };
  names = names_mean (link_plan k l a.regions vs) l chosen h.valid meant;
}
