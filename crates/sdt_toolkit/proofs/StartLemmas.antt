-- What a scatter image and an image of bytes alone are in memory: their files, moved and cleared, are the view of their plan.
use Rattle.std.proofs.Common.{◌≡◌, ℕ, suc, ◌+◌, ◌%◌, ◌<◌, ◌==◌, not, Bool, true, false, cond, if◌then◌else◌, List, [], ◌∷◌, ◌++◌, length, map, append_assoc, Option, Some, Ok, refl, sym, ap, ◌∙◌, subst, arith}
use Rattle.std.specs.Prelude.{unwrap_or}
use Rattle.std.specs.List.{filter, flat_map, find, AllByRecursion}
use Rattle.std.specs.Option.{option_map}
use Rattle.base_lemmas.proofs.BaseLemmas.{all_weaker}
use Rattle.sdt_word.specs.Numbers.{flag}
use Rattle.sdt_word.specs.declared.ranges.Range32.{Range32}
use Rattle.aof_object.specs.declared.records.Object.{Object}
use Rattle.boot_code.specs.declared.rows.CopyRow.{CopyRow}
use Rattle.boot_code.specs.declared.rows.ZeroRow.{ZeroRow}
use Rattle.boot_code.specs.Boots.{ByteMap, Boots, moved, zeroed}
use Rattle.boot_code.specs.Laws.{bound_of, written_by}
use Rattle.boot_code.specs.Maps.{Segment, map_of}
use Rattle.scatter_text.specs.Laws.{ReadingLaw}
use Rattle.scatter_text.specs.Reading.{scatter_of}
use Rattle.scatter_text.specs.Validity.{IsValidLoad}
use Rattle.scatter_text.specs.Validity as valid
use Rattle.place_model.specs.declared.scatter.Kind.{Kind}
use Rattle.place_model.specs.declared.scatter.Kind.TheVariants as kind
use Rattle.place_model.specs.declared.scatter.Scatter.{Scatter}
use Rattle.place_model.specs.declared.scatter.ScatterBase.{ScatterBase}
use Rattle.place_model.specs.declared.scatter.ScatterBase.TheVariants.{At, Plus}
use Rattle.place_model.specs.declared.scatter.ScatterLoad.{ScatterLoad}
use Rattle.place_model.specs.declared.scatter.ScatterRegion.{ScatterRegion}
use Rattle.place_model.specs.Assignment.{description, described_regions}
use Rattle.place_model.specs.Faults.{load_meeting, execution_meeting}
use Rattle.place_model.specs.Items.{is_zero_initialised}
use Rattle.place_model.specs.Laws.{IsWholeBase}
use Rattle.place_model.specs.Plans.{Contents, areas_in, veneers_in, Planned, length_of, zero_base_of, end_of, planned, planned_from, loads_from, Plan, regions_of, copies_of, parts_of, table_words, plan_of, stood_in, address_of, is_startup, boot_address}
use Rattle.place_model.specs.Things.{Thing, AnArea, Startup, start_of, size_of, Stood, stood}
use Rattle.place_model.proofs.ListLemmas.{all_flat}
use Rattle.place_model.proofs.SpanLemmas.{or_none}
use Rattle.image_model.specs.Regions.{Filling, Given, AreSized, filled}
use Rattle.image_model.specs.Views.{IsView, view_of, IsLoadView, files_of}
use Rattle.image_laws.proofs.FileLemmas.{overlap_none, is_load_view, moved_view}
use Rattle.image_laws.proofs.PlainLemmas.{plain_law}
use Rattle.image_laws.proofs.ViewLemmas.{is_view}
use Rattle.link_model.specs.declared.images.Image.{Image}
use Rattle.link_model.specs.declared.images.LoadRegion.{LoadRegion}
use Rattle.link_model.specs.declared.placing.Assigned.{Assigned}
use Rattle.link_model.specs.declared.placing.Placement.{Placement}
use Rattle.link_model.specs.declared.placing.Region.{Region}
use Rattle.link_model.specs.declared.placing.Veneer.{Veneer}
use Rattle.link_model.specs.declared.selection.Linked.{Linked}
use Rattle.link_model.specs.declared.selection.Named.{Named}
use Rattle.link_model.specs.Members.{link_of}
use Rattle.link_model.specs.RegionNames.{names_of_plain}
use Rattle.link_model.specs.Veneers.{veneers_of}
use Rattle.link_select.specs.Laws.{HaveMeanings}
use Rattle.link_items.specs.LinkedItems.{contents_of, has_header, items_in}
use Rattle.link_place.specs.Placed.{placement_of}
use Rattle.link_apply.specs.RegionBytes.{regions_bytes}
use Rattle.link_laws.specs.Joins.{IsMade, PlacesOf, bytes_of_load, files_from, given_in, filled_in}
use Rattle.link_laws.specs.Placing.{link_plan, IsPlacedLink}
use Rattle.link_laws.specs.Plans.{AreMeant, AreSeenBy, IsCalledBy, IsSelection, entry_by, header_by}
use Rattle.link_laws.proofs.Made.AppliedLemmas.{made_has_places, made_is_applied}
use Rattle.link_laws.proofs.Made.BytesLaws.{made_sized, made_has_files}
use Rattle.link_laws.proofs.Made.PlacedLemmas.{are_needed, made_is_placed}
use Rattle.link_laws.proofs.Made.Start.{made_boots}
use Rattle.link_laws.proofs.Plans.Numbers.{plain_numbered, scatter_numbered}
use Rattle.link_laws.proofs.Plans.Seen.{entry_whole, views_are_seen}
use Rattle.armlink_core.specs.Images.{bytes_in, image_of, linking, loads_from as regions_loaded}
use Rattle.armlink_core.specs.Linking.{symbols_of}
use Rattle.armlink_core.specs.Sizes.{zeros_in}
use Rattle.sdt_toolkit.specs.Plans.{HasViews, IsPlacedAs}
use Rattle.sdt_toolkit.specs.Starting.{AreSound, segments_of}
use Rattle.sdt_toolkit.proofs.RunLinks.{can_run}
use Rattle.sdt_toolkit.proofs.RunNames.{IsNamedLoad, named_by}
use Rattle.sdt_toolkit.proofs.SelectionLemmas.{IsAnswered, answered, made_by, meant_by, still_image}

-- ---- its load regions

pub bytes_alike : (number : ℕ) (rs : List Region) (parts : List (List ℕ)) → bytes_in number rs parts ≡ bytes_of_load number rs parts
bytes_alike number [] parts = refl
bytes_alike number (r ∷ rs) [] = refl
bytes_alike number (r ∷ rs) (bytes ∷ parts) = ap (λ (rest : List ℕ). (if r.load_region == number then bytes else []) ++ rest) (bytes_alike number rs parts)

abbrev segment_of : LoadRegion → Segment
segment_of l = record { base = l.base; bytes = l.bytes }

segments_alike : (number : ℕ) (rs : List Region) (parts : List (List ℕ)) (loads : List ScatterLoad)
    → map segment_of (regions_loaded number rs parts loads) ≡ files_from number rs parts loads
segments_alike number rs parts [] = refl
segments_alike number rs parts (l ∷ loads) =
    ap (λ (bytes : List ℕ). (record { base = l.base; bytes = bytes }) ∷ map segment_of (regions_loaded (suc number) rs parts loads)) (bytes_alike number rs parts)
    ∙ ap (λ (rest : List Segment). (record { base = l.base; bytes = bytes_of_load number rs parts }) ∷ rest) (segments_alike (suc number) rs parts loads)

-- they have the names of the description
pub loads_named : (number : ℕ) (rs : List Region) (parts : List (List ℕ)) (loads : List ScatterLoad)
    → map (λ (l : LoadRegion). l.name) (regions_loaded number rs parts loads) ≡ map (λ (l : ScatterLoad). l.name) loads
loads_named number rs parts [] = refl
loads_named number rs parts (l ∷ loads) = ap (λ (names : List (List ℕ)). l.name ∷ names) (loads_named (suc number) rs parts loads)

-- ---- what they are in memory

header_none : (k : Kind) (p : Plan) (g : Given) → has_header k ≡ false → header_by k p g ≡ []
header_none (kind.Scatter s) p g e = refl
header_none (kind.Plain base) p g e = refl
header_none (kind.Aif base relocatable) p g e = absurd cc

none_called : (k : Kind) (p : Plan) (l : Linked) (call : ℕ) → has_header k ≡ false → IsCalledBy k p l call
none_called (kind.Scatter s) p l call e = tt
none_called (kind.Plain base) p l call e = tt
none_called (kind.Aif base relocatable) p l call e = absurd cc

module _ (k : Kind) (ram : Option (List Range32)) (l : Linked) (a : Assigned) (vs : List Veneer) (h : IsMade k ram l a vs (placement_of (link_plan k l a.regions vs)))
    (chosen : IsSelection l) (plain : has_header k ≡ false) where
  abbrev plan : Plan
  plan = link_plan k l a.regions vs

  abbrev own : Placement
  own = placement_of plan

  abbrev given : Given
  given = given_in (link_of l) own

  abbrev held : Filling
  held = filled_in l own plan

  abbrev made_view : ByteMap
  made_view = view_of plan held

  abbrev made_image : Image
  made_image = image_of k (made_by l a vs own) []

  is_placed : IsPlacedLink k ram l a.regions vs
  is_placed = made_is_placed k ram l a vs own h

  is_needed : vs ≡ veneers_of (link_of l) a.regions (has_header k)
  is_needed = are_needed k ram l a vs own h

  are_sized : AreSized held plan
  are_sized = made_sized k ram l a vs own h plain

  is_shown : IsView plan held made_view
  is_shown = is_view plan held (or_none (load_meeting plan) (execution_meeting plan) (overlap_none k ram plan is_placed.accepted)).1 are_sized

  is_loaded : IsLoadView plan made_view (files_of plan held)
  is_loaded = is_load_view k (contents_of l.objects a.regions vs) ram held is_placed.accepted are_sized

  segments_same : segments_of made_image ≡ files_of plan held
  segments_same =
      segments_alike 0 own.regions (regions_bytes (link_of l) own) (description k) ∙ sym (made_has_files k ram l a vs own h plain)

  its_files : IsLoadView plan made_view (segments_of made_image)
  its_files = subst (IsLoadView plan made_view) (sym segments_same) is_loaded

  whole_entry : made_image.entry ≡ entry_by plan l
  whole_entry = entry_whole k ram l a vs is_placed chosen.entered

  are_seen : AreMeant plan l → AreSeenBy k plan l made_view
  are_seen meant =
      views_are_seen k ram l a vs given made_view is_placed is_needed chosen meant (made_is_applied k ram l a vs own h) (ap (λ (n : ℕ). n + flag l.entry.thumb) whole_entry)
      (none_called k plan l given.call plain)
      (subst (λ (header : List ℕ). IsView plan (filled given plan header) made_view) (sym (header_none k plan given plain)) is_shown)

-- ---- a scatter image

stands_some : (origin at words : ℕ) (ts : List Thing) (more : List Stood)
    → (a : ℕ) × (address_of is_startup (stood origin at (ts ++ Startup words ∷ []) ++ more) ≡ Some a)
stands_some origin at words [] more = (start_of origin at (Startup words), refl)
stands_some origin at words (t ∷ ts) more =
    go (is_startup t) (stands_some origin (start_of origin at t + size_of t) words ts more)
  where
    go : (b : Bool) → (a : ℕ) × (address_of is_startup (stood origin (start_of origin at t + size_of t) (ts ++ Startup words ∷ []) ++ more) ≡ Some a)
        → (a : ℕ) × (option_map (λ s. s.address) (cond b (Some (record { thing = t; address = start_of origin at t }))
        (find (λ s. is_startup s.thing) (stood origin (start_of origin at t + size_of t) (ts ++ Startup words ∷ []) ++ more))) ≡ Some a)
    go true later = (start_of origin at t, refl)
    go false later = later

first_boots : (s : Scatter) (c : Contents) (words : ℕ) (l : ScatterLoad) (ls : List ScatterLoad) (rs : List ScatterRegion) → 0 < length rs
    → (a : ℕ) × (address_of is_startup (flat_map stood_in (planned_from (kind.Scatter s) c words 0 rs l.base l.base ++ regions_of (loads_from (kind.Scatter s) c words (0 + length rs) ls))) ≡ Some a)
first_boots s c words l ls [] some = absurd (omega (arith, some))
first_boots s c words l ls (r ∷ rs) some =
    let first : Planned = planned (kind.Scatter s) c words 0 r l.base l.base in
    let rest : List Planned = planned_from (kind.Scatter s) c words 1 rs (end_of first) (l.base + length_of first) ++ regions_of (loads_from (kind.Scatter s) c words (0 + length (r ∷ rs)) ls) in
    let before : List Thing = map AnArea (filter (λ i. not (is_zero_initialised i)) (areas_in c 0)) ++ veneers_in c 0 in
    let things : first.things ≡ before ++ Startup words ∷ [] =
    sym (append_assoc (map AnArea (filter (λ i. not (is_zero_initialised i)) (areas_in c 0))) (veneers_in c 0) (Startup words ∷ [])) in
    let zeros : List Stood = stood first.origin (zero_base_of first) first.zeros in
    let (a, found) = stands_some first.origin first.base words before (zeros ++ flat_map stood_in rest) in
    let whole : flat_map stood_in (first ∷ rest) ≡ stood first.origin first.base (before ++ Startup words ∷ []) ++ (zeros ++ flat_map stood_in rest) =
    append_assoc (stood first.origin first.base first.things) zeros (flat_map stood_in rest)
    ∙ ap (λ (ts : List Thing). stood first.origin first.base ts ++ (zeros ++ flat_map stood_in rest)) things in
    (a, ap (address_of is_startup) whole ∙ found)

boots_at : (s : Scatter) (c : Contents) (words : ℕ) (ls : List ScatterLoad) → 0 < length ls → AllByRecursion IsValidLoad ls
    → (a : ℕ) × (address_of is_startup (flat_map stood_in (regions_of (loads_from (kind.Scatter s) c words 0 ls))) ≡ Some a)
boots_at s c words [] some each = absurd (omega (arith, some))
boots_at s c words (l ∷ ls) some each = first_boots s c words l ls l.regions each.0.some

has_boot : (s : Scatter) (c : Contents) → valid.IsValid s.loads → (a : ℕ) × (boot_address (plan_of (kind.Scatter s) c) ≡ Some a)
has_boot s c v = boots_at s c (table_words (kind.Scatter s) c) s.loads v.some v.each

is_whole_base : (b : ScatterBase) → valid.IsWholeBase b → IsWholeBase b
is_whole_base (At n) h = h.1
is_whole_base (Plus n) h = h.1

whole_bases : (s : Scatter) → valid.IsValid s.loads → AllByRecursion (λ r. IsWholeBase r.base) (described_regions (kind.Scatter s))
whole_bases s v =
    all_flat (λ r. IsWholeBase r.base) (λ l. l.regions) s.loads
    (all_weaker IsValidLoad (λ l. AllByRecursion (λ r. IsWholeBase r.base) l.regions)
    (λ l one. all_weaker valid.AreWhole (λ r. IsWholeBase r.base) (λ r both. is_whole_base r.base both.0) l.regions one.regions) s.loads v.each)

module _ (s : Scatter) (ram : Option (List Range32)) (l : Linked) (a : Assigned) (vs : List Veneer)
    (h : IsMade (kind.Scatter s) ram l a vs (placement_of (link_plan (kind.Scatter s) l a.regions vs))) (chosen : IsSelection l)
    (v : valid.IsValid s.loads) (named : AllByRecursion IsNamedLoad s.loads) where
  abbrev scattered : Plan
  scattered = plan (kind.Scatter s) ram l a vs h chosen refl

  abbrev its_own : Placement
  its_own = placement_of scattered

  abbrev filling : Filling
  filling = held (kind.Scatter s) ram l a vs h chosen refl

  abbrev its_view : ByteMap
  its_view = made_view (kind.Scatter s) ram l a vs h chosen refl

  abbrev its_image : Image
  its_image = made_image (kind.Scatter s) ram l a vs h chosen refl

  its_places : PlacesOf its_own scattered
  its_places = made_has_places (kind.Scatter s) ram l a vs its_own h

  scatter_placed : HaveMeanings (Some (symbols_of (kind.Scatter s))) l → (os : List (Named Object)) → l.objects ≡ os → IsPlacedAs (kind.Scatter s) ram os its_image (λ to. its_view)
  scatter_placed meanings os objects =
      let k : Kind = kind.Scatter s in
      let (boot, there) = has_boot s (contents_of l.objects a.regions vs) v in
      let meant : AreMeant scattered l =
      meant_by k ram l a.regions vs (is_placed k ram l a vs h chosen refl) (symbols_of (kind.Scatter s)) meanings (scatter_numbered s (contents_of l.objects a.regions vs) boot there) in
      let start : its_image.start ≡ boot = ap (λ (o : Option ℕ). unwrap_or o 0) there in
      let files : segments_of its_image ≡ files_of scattered filling = segments_same k ram l a vs h chosen refl in
      -- the rows of the image's regions are those of the plan
      let Booted : List CopyRow → List ZeroRow → Type 0 = λ copies parts.
      Boots (map_of (segments_of its_image)) its_view (written_by copies parts) its_image.start (bound_of copies parts) (its_image.entry + flag its_image.thumb) in
      let by_plan : Booted (copies_of scattered) (parts_of scattered) =
      subst (λ (n : ℕ). Boots (map_of (segments_of its_image)) its_view (written_by (copies_of scattered) (parts_of scattered)) n (bound_of (copies_of scattered) (parts_of scattered)) (its_image.entry + flag its_image.thumb)) (sym start)
      (subst (λ (fs : List Segment). Boots (map_of fs) its_view (written_by (copies_of scattered) (parts_of scattered)) boot (bound_of (copies_of scattered) (parts_of scattered)) (its_image.entry + flag its_image.thumb)) (sym files)
      (made_boots s ram l a vs its_own boot h there)) in
      record {
        link = l;
        assigned = a;
        veneers = vs;
        placement = its_own;
        objects = objects;
        selected = chosen;
        made = h;
        places = refl;
        placed = is_placed k ram l a vs h chosen refl;
        needed = is_needed k ram l a vs h chosen refl;
        told = record {
          form = refl;
          names = loads_named 0 its_own.regions (regions_bytes (link_of l) its_own) (description k);
          regions = refl;
          start = there ∙ ap Some (sym start);
          bound = λ i. bound_of (its_places.copies i) (its_places.parts i);
          thumb = refl;
          moves = refl;
        };
        seen = λ to fits. are_seen k ram l a vs h chosen refl meant;
        files = λ to fits. record {
          files = its_files k ram l a vs h chosen refl;
          moved = λ x b shows.
              subst (λ (fs : List Segment). zeroed (Some 0) (moved (map_of fs) (copies_of scattered)) (parts_of scattered) x ≡ Some b) (sym files)
              (moved_view scattered filling its_view (files_of scattered filling) (is_shown k ram l a vs h chosen refl) (is_loaded k ram l a vs h chosen refl) x b shows);
        };
        entry = λ to fits. whole_entry k ram l a vs h chosen refl;
        reaches = (
          subst (λ (copies : List CopyRow). Booted copies (zeros_in its_own.regions)) (sym its_places.copies)
              (subst (λ (parts : List ZeroRow). Booted (copies_of scattered) parts) (sym its_places.parts) by_plan),
          can_run s ram l a vs its_own h boot there v named files (is_shown k ram l a vs h chosen refl) (is_loaded k ram l a vs h chosen refl),
        );
      }

scatter_answered : (s : Scatter) (ram : Option (List Range32)) (os : List (Named Object)) (i : Image) → valid.IsValid s.loads → AllByRecursion IsNamedLoad s.loads → IsAnswered (kind.Scatter s) ram os i
    → HasViews (kind.Scatter s) ram os i
scatter_answered s ram os i v named n =
    let k : Kind = kind.Scatter s in
    let p : Placement = placement_of (link_plan k n.linked n.assigned.regions n.veneers) in
    subst (HasViews k ram os) (still_image k ram i n.linked n.assigned n.veneers p refl n.answer)
    ((λ to. its_view s ram n.linked n.assigned n.veneers n.answer.made n.selection v named), scatter_placed s ram n.linked n.assigned n.veneers n.answer.made n.selection v named n.meanings os n.objects)

pub scatter_views : ReadingLaw → (s : Scatter) (text : List ℕ) → scatter_of text ≡ Ok s → (ram : Option (List Range32)) (os : List (Named Object)) (i : Image)
    → AreSound os → linking (kind.Scatter s) ram os ≡ Ok i → HasViews (kind.Scatter s) ram os i
scatter_views law s text at ram os i sound h =
    let (spelled, v) = (law text s).0 at in
    scatter_answered s ram os i v (named_by text s.loads spelled)
    (answered (kind.Scatter s) ram os i sound (all_weaker IsValidLoad (λ l. l.base % 4 ≡ 0) (λ l one. one.base.1) s.loads v.each) (whole_bases s v) h)

-- ---- an image of bytes alone

module _ (base : ℕ) (ram : Option (List Range32)) (l : Linked) (a : Assigned) (vs : List Veneer)
    (h : IsMade (kind.Plain base) ram l a vs (placement_of (link_plan (kind.Plain base) l a.regions vs))) (chosen : IsSelection l) where
  abbrev plain_plan : Plan
  plain_plan = plan (kind.Plain base) ram l a vs h chosen refl

  abbrev plain_view : ByteMap
  plain_view = made_view (kind.Plain base) ram l a vs h chosen refl

  abbrev plain_image : Image
  plain_image = made_image (kind.Plain base) ram l a vs h chosen refl

  plain_placed : HaveMeanings (Some (symbols_of (kind.Plain base))) l → (os : List (Named Object)) → l.objects ≡ os → IsPlacedAs (kind.Plain base) ram os plain_image (λ to. plain_view)
  plain_placed meanings os objects =
      let k : Kind = kind.Plain base in
      let c : Contents = contents_of l.objects a.regions vs in
      let meant : AreMeant plain_plan l =
      meant_by k ram l a.regions vs (is_placed k ram l a vs h chosen refl) names_of_plain meanings (plain_numbered k c (λ n words. refl) refl) in
      let filling : Filling = held k ram l a vs h chosen refl in
      record {
        link = l;
        assigned = a;
        veneers = vs;
        placement = placement_of plain_plan;
        objects = objects;
        selected = chosen;
        made = h;
        places = refl;
        placed = is_placed k ram l a vs h chosen refl;
        needed = is_needed k ram l a vs h chosen refl;
        told = record {
          form = refl;
          names = loads_named 0 (placement_of plain_plan).regions (regions_bytes (link_of l) (placement_of plain_plan)) (description k);
          regions = refl;
          start = refl;
          bound = refl;
          thumb = refl;
          moves = refl;
        };
        seen = λ to fits. are_seen k ram l a vs h chosen refl meant;
        files = λ to fits. record {
          files = its_files k ram l a vs h chosen refl;
          cleared = λ x.
              ap (λ (fs : List Segment). zeroed (Some 0) (map_of fs) (parts_of plain_plan) x) (segments_same k ram l a vs h chosen refl)
              ∙ plain_law base c (items_in l.objects) filling plain_view (files_of plain_plan filling)
              (is_placed k ram l a vs h chosen refl).assigned (is_shown k ram l a vs h chosen refl) (is_loaded k ram l a vs h chosen refl) x;
        };
        entry = λ to fits. whole_entry k ram l a vs h chosen refl;
        reaches = tt;
      }

pub plain_views : (base : ℕ) (ram : Option (List Range32)) (os : List (Named Object)) (i : Image) → AreSound os → base % 4 ≡ 0 → linking (kind.Plain base) ram os ≡ Ok i → HasViews (kind.Plain base) ram os i
plain_views base ram os i sound whole h =
    let k : Kind = kind.Plain base in
    let n = answered k ram os i sound (whole, tt) (whole, (refl, (refl, tt))) h in
    let p : Placement = placement_of (link_plan k n.linked n.assigned.regions n.veneers) in
    subst (HasViews k ram os) (still_image k ram i n.linked n.assigned n.veneers p refl n.answer)
    ((λ to. plain_view base ram n.linked n.assigned n.veneers n.answer.made n.selection), plain_placed base ram n.linked n.assigned n.veneers n.answer.made n.selection n.meanings os n.objects)
