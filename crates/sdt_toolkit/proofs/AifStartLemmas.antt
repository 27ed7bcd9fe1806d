-- What an ARM image file is in memory: it is the view of its plan, or becomes it at each address that leaves room; and so of every
-- kind of image that is answered.
use Rattle.std.proofs.Common.{◌≡◌, ◌⊎◌, inl, inr, ℕ, zero, suc, ◌+◌, ◌-◌, ◌*◌, ◌/◌, ◌%◌, ◌^◌, ◌<◌, ◌≤◌, Bool, true, false, cond, List, [], ◌∷◌, ◌++◌, drop, length, length-append, map, Option, Some, None, refl, sym, ap, ◌∙◌, subst, arith}
use Rattle.std.specs.Prelude.{slice_get, slice_index, unwrap_or}
use Rattle.std.specs.List.{AllByRecursion}
use Rattle.std.proofs.lemmas.Option.{slice_get-map}
use Rattle.sdt_word.specs.Numbers.{flag}
use Rattle.sdt_word.specs.declared.ranges.Range32.{Range32}
use Rattle.aof_object.specs.declared.records.Object.{Object}
use Rattle.arm7_model.specs.Memory.{store}
use Rattle.arm7_model.proofs.MemoryLemmas.{store-below, store-in}
use Rattle.boot_code.specs.Aif.{BootsAif, IsFixedLoadable, IsRelocatable, ShowsImage, aif_bound, file_at, shifted_file}
use Rattle.boot_code.specs.Boots.{ByteMap, Boots, covers, zeroed}
use Rattle.boot_code.specs.Maps.{bytes_of_words}
use Rattle.boot_code.specs.Startup.{zeros}
use Rattle.boot_code.specs.Words.{relocator_list}
use Rattle.boot_code.proofs.ViewLemmas.{covers-false, covers-inside, covers-true, get_or-zeros, length-zeros}
use Rattle.place_model.specs.declared.scatter.Kind.{Kind}
use Rattle.place_model.specs.declared.scatter.Kind.TheVariants as kind
use Rattle.place_model.specs.Assignment.{description}
use Rattle.place_model.specs.Laws.{IsWholeRegion}
use Rattle.place_model.specs.Plans.{Plan, Planned, execution_size, length_of, regions_of, zero_length_of}
use Rattle.place_model.specs.Things.{Thing, Header, AnArea, AVeneer, Startup, size_of}
use Rattle.place_model.proofs.PlanLemmas.{whole_law}
use Rattle.scatter_text.specs.Laws.{ReadingLaw}
use Rattle.image_model.specs.AifFiles.{aif_plan, fixed_aif, offsets_of, shifted_offsets}
use Rattle.image_model.specs.AifFiles as plan
use Rattle.image_model.specs.Regions.{Filling, Given, filled, region_bytes}
use Rattle.image_laws.specs.AifLaws.{IsAif as IsPlannedAif}
use Rattle.image_laws.proofs.AifFixed.{fixed_image_loads}
use Rattle.image_laws.proofs.AifLemmas.{base_small, header_low, no_length_2, ro, rw_, size_most, zi}
use Rattle.image_laws.proofs.ViewLemmas.{bytes_size}
use Rattle.aif_image.specs.Files.{IsAif, aif_file, can_move, header_words, loaded, mover_bytes, parts_bytes, parts_size, ro_size, rw_size, size_in, zero_size}
use Rattle.aif_image.proofs.WrittenLemmas.{written as reads_back}
use Rattle.image_laws.specs.AifFiles.{IsOfPlan}
use Rattle.image_laws.proofs.AifFileLemmas.{fixed_file, relocatable_file}
use Rattle.link_model.specs.declared.images.Image.{Image}
use Rattle.link_model.specs.declared.placing.Assigned.{Assigned}
use Rattle.link_model.specs.declared.placing.Placement.{Placement}
use Rattle.link_model.specs.declared.placing.Region.{Region}
use Rattle.link_model.specs.declared.placing.Veneer.{Veneer}
use Rattle.link_model.specs.declared.selection.Linked.{Linked}
use Rattle.link_model.specs.declared.selection.Named.{Named}
use Rattle.link_model.specs.Members.{link_of}
use Rattle.link_model.specs.Veneers.{veneers_of}
use Rattle.link_model.specs.RegionNames.{names_of_plain}
use Rattle.link_select.specs.Laws.{HaveMeanings}
use Rattle.link_items.specs.LinkedItems.{items_in}
use Rattle.link_apply.specs.Laws.{AreBytes}
use Rattle.link_apply.specs.Placed.{called}
use Rattle.link_place.specs.Placed.{placement_of}
use Rattle.link_values.specs.Shifts.{not_relocatable, shifts_of}
use Rattle.link_shifts.specs.Moves.{moves_of}
use Rattle.link_apply.specs.RegionBytes.{regions_bytes}
use Rattle.link_laws.specs.AifJoins.{HasRoomAt, placement_at}
use Rattle.link_laws.specs.AifStarts.{HasParts, IsSeen, aif_at, contents_at, entry_at, given_of, view_at}
use Rattle.link_laws.specs.Joins.{IsMade}
use Rattle.link_laws.specs.Placing.{link_plan}
use Rattle.link_laws.specs.Plans.{AreMeant, AreSeenBy, IsSelection, entry_by}
use Rattle.link_laws.proofs.Aif.Entry.{calls}
use Rattle.link_laws.proofs.Aif.Starts.{becomes_there, entry_moves, relocator_there, size_there, made_fixed_boots, made_has_parts, made_is_aif, made_is_seen, made_moving_boots, moved_is_seen}
use Rattle.link_laws.proofs.Made.PlacedLemmas.{are_needed, made_is_placed}
use Rattle.link_laws.proofs.Plans.Numbers.{plain_numbered}
use Rattle.link_laws.proofs.Plans.Seen.{entry_whole, views_are_seen}
use Rattle.link_laws.proofs.Shifts.Aif.{parts_at, zero_at}
use Rattle.armlink_core.specs.Images.{image_of}
use Rattle.sdt_toolkit.specs.Plans.{HasViews, ImagesArePlaced, IsPlacedAs, zero_part}
use Rattle.sdt_toolkit.specs.Starting.{HasRoom}
use Rattle.sdt_toolkit.proofs.RunBytes.{OfBytes, each_byte, joined, loads_are_bytes, of_bytes, words_bytes}
use Rattle.sdt_toolkit.proofs.SelectionLemmas.{IsAnswered, answered, made_by, meant_by, not_refused, still_image}
use Rattle.sdt_toolkit.proofs.StartLemmas.{bytes_alike, loads_named, plain_views, scatter_views}

-- ---- bytes and sizes

drop_bytes : (n : ℕ) (xs : List ℕ) → OfBytes xs → OfBytes (drop n xs)
drop_bytes zero xs h = h
drop_bytes (suc n) [] h = tt
drop_bytes (suc n) (x ∷ xs) h = drop_bytes n xs h.1

bytes_if : (b : Bool) (xs : List ℕ) → OfBytes xs → OfBytes (cond b xs [])
bytes_if true xs h = h
bytes_if false xs h = tt

size_same : (size : Region → ℕ) (planned : Planned → ℕ) (rs : List Region) (p : Plan) (n : ℕ) → map size rs ≡ map planned (regions_of p) → size_in size rs n ≡ plan.size_in planned p n
size_same size planned rs p n same =
    ap (λ (o : Option ℕ). unwrap_or o 0) (sym (slice_get-map size rs n) ∙ ap (λ (xs : List ℕ). slice_get xs n) same ∙ slice_get-map planned (regions_of p) n)

-- what holds things of their sizes does so with zeros for a header
sized_as : (g : Given) (p : Plan) (header : List ℕ) (r : Planned) (ts : List Thing) → AllByRecursion (λ t. length (filled g p header r t) ≡ size_of t) ts
    → AllByRecursion (λ t. length (filled g p (zeros 0x80) r t) ≡ size_of t) ts
sized_as g p header r [] h = tt
sized_as g p header r (Header ∷ ts) h = (length-zeros 0x80, sized_as g p header r ts h.1)
sized_as g p header r (AnArea x ∷ ts) h = (h.0, sized_as g p header r ts h.1)
sized_as g p header r (AVeneer target thumb ∷ ts) h = (h.0, sized_as g p header r ts h.1)
sized_as g p header r (Startup words ∷ ts) h = (h.0, sized_as g p header r ts h.1)

-- ---- a file that is loaded where it runs, with its zero part cleared

module _ (file : List ℕ) (parts size e b : ℕ) (view : ByteMap) (h : IsFixedLoadable file parts size e b view) where
  abbrev end : ℕ
  end = b + parts

  abbrev Cleared : ℕ → Option ℕ
  Cleared x = zeroed (Some 0) (file_at file b) (record { base = end; size = size } ∷ []) x

  behind : (x : ℕ) → covers end size x ≡ true → Cleared x ≡ Some 0
  behind x e = ap (λ (c : Bool). cond c (Some 0) (file_at file b x)) e

  before : (x : ℕ) → covers end size x ≡ false → Cleared x ≡ file_at file b x
  before x e = ap (λ (c : Bool). cond c (Some 0) (file_at file b x)) e

  loaded_at : (x : ℕ) → covers b (length file) x ≡ true → file_at file b x ≡ Some (slice_index file (x - b))
  loaded_at x e = ap (λ (c : Bool). cond c (Some (slice_index file (x - b))) None) e

  not_loaded : (x : ℕ) → covers b (length file) x ≡ false → file_at file b x ≡ None
  not_loaded x e = ap (λ (c : Bool). cond c (Some (slice_index file (x - b))) None) e

  where_seen : (x v : ℕ) → view x ≡ Some v → (c : Bool) → covers end size x ≡ c → Cleared x ≡ Some v
  where_seen x v e true in_zero =
      let (low, high, is) = h.inside x v e in
      let (from, to) = covers-true end size x in_zero in
      let small : x < end + length (zeros size) = let n = length-zeros size in omega (arith, to, n) in
      let none : v ≡ 0 = sym is ∙ store-in (shifted_file file b) end (zeros size) x from small ∙ get_or-zeros size (x - end) in
      behind x in_zero ∙ ap Some (sym none)
  where_seen x v e false off =
      let (low, high, is) = h.inside x v e in
      go (covers-false end size x off) low high is
    where
      go : (x < end) ⊎ (end + size ≤ x) → b ≤ x → x < b + parts + size → store (shifted_file file b) end (zeros size) x ≡ v → Cleared x ≡ Some v
      go (inr far) low high is = absurd (omega (arith, far, high))
      go (inl near) low high is =
          let there : covers b (length file) x ≡ true = let n = h.size in covers-inside b (length file) x low (omega (arith, near, n)) in
          before x off ∙ loaded_at x there ∙ ap Some (sym (store-below (shifted_file file b) end (zeros size) x near) ∙ is)

  where_none : (x : ℕ) → view x ≡ None → (c : Bool) → covers end size x ≡ c → (d : Bool) → covers b (length file) x ≡ d → Cleared x ≡ None
  where_none x e true in_zero d at =
      let (from, to) = covers-true end size x in_zero in
      let (v, some) = h.complete x (omega (arith, from)) (omega (arith, to)) in
      absurd (let bad : None ≡ Some v = sym e ∙ some in cc)
  where_none x e false off true at =
      let (from, to) = covers-true b (length file) x at in
      let (v, some) = h.complete x from (let n = h.size in omega (arith, to, n)) in
      absurd (let bad : None ≡ Some v = sym e ∙ some in cc)
  where_none x e false off false at = before x off ∙ not_loaded x at

  cleared_is : (x : ℕ) → Cleared x ≡ view x
  cleared_is x = go (view x) refl
    where
      go : (o : Option ℕ) → view x ≡ o → Cleared x ≡ view x
      go (Some v) e = where_seen x v e (covers end size x) refl ∙ sym e
      go None e = where_none x e (covers end size x) refl (covers b (length file) x) refl ∙ sym e

-- ---- objects that are seen

module _ (base : ℕ) (relocatable : Bool) (ram : Option (List Range32)) (l : Linked) (a : Assigned) (vs : List Veneer) (chosen : IsSelection l)
    (needed : vs ≡ veneers_of (link_of l) a.regions true) (view : ByteMap)
    (seen : IsSeen base relocatable ram l a vs (placement_of (aif_plan base relocatable (contents_at l a vs))) view) where
  whole_entry : entry_at l (placement_of (aif_plan base relocatable (contents_at l a vs))) ≡ entry_by (aif_plan base relocatable (contents_at l a vs)) l
  whole_entry = entry_whole (kind.Aif base relocatable) ram l a vs seen.placed chosen.entered

  aif_seen : HaveMeanings (Some names_of_plain) l → AreSeenBy (kind.Aif base relocatable) (aif_plan base relocatable (contents_at l a vs)) l view
  aif_seen meanings =
      let k : Kind = kind.Aif base relocatable in
      let meant : AreMeant (aif_plan base relocatable (contents_at l a vs)) l =
      meant_by k ram l a.regions vs seen.placed names_of_plain meanings (plain_numbered k (contents_at l a vs) (λ n words. refl) refl) in
      views_are_seen k ram l a vs (given_of l (placement_of (aif_plan base relocatable (contents_at l a vs)))) view seen.placed needed chosen meant seen.applied
      (ap (λ (n : ℕ). n + flag l.entry.thumb) whole_entry) (calls base relocatable ram l a vs seen.placed needed chosen.entered) seen.shows

-- ---- the image

module _ (base : ℕ) (relocatable : Bool) (ram : Option (List Range32)) (l : Linked) (a : Assigned) (vs : List Veneer) (moves : List ℕ)
    (h : IsMade (kind.Aif base relocatable) ram l a vs (placement_of (aif_plan base relocatable (contents_at l a vs)))) where
  abbrev its_plan : Plan
  its_plan = aif_plan base relocatable (contents_at l a vs)

  abbrev own : Placement
  own = placement_of its_plan

  abbrev aif : Image
  aif = image_of (kind.Aif base relocatable) (made_by l a vs own) moves

  has_parts : HasParts its_plan l own
  has_parts = made_has_parts base relocatable ram l a vs own h

  is_of_plan : IsOfPlan base its_plan (given_of l own) aif
  is_of_plan = record {
    loads = bytes_alike 0 own.regions (regions_bytes (link_of l) own) ∙ has_parts.loads;
    lengths = has_parts.lengths;
    sizes = has_parts.sizes;
    start = refl;
    call = refl;
  }

  -- ---- what a run asks of its file

  is_planned : IsPlannedAif base relocatable (contents_at l a vs) (items_in l.objects) (given_of l own) ram
  is_planned = made_is_aif base relocatable ram l a vs own h

  abbrev first : Planned
  first = ro base relocatable (contents_at l a vs) (items_in l.objects) (given_of l own) ram is_planned

  abbrev second : Planned
  second = rw_ base relocatable (contents_at l a vs) (items_in l.objects) (given_of l own) ram is_planned

  abbrev third : Planned
  third = zi base relocatable (contents_at l a vs) (items_in l.objects) (given_of l own) ram is_planned

  are_whole : AllByRecursion IsWholeRegion (first ∷ second ∷ third ∷ [])
  are_whole = whole_law (kind.Aif base relocatable) (contents_at l a vs) 0 is_planned.whole

  ro_is : ro_size own.regions ≡ length_of first
  ro_is = size_same (λ r. r.length) length_of own.regions its_plan 0 has_parts.lengths

  rw_is : rw_size own.regions ≡ length_of second
  rw_is = size_same (λ r. r.length) length_of own.regions its_plan 1 has_parts.lengths

  zi_is : zero_size own.regions ≡ execution_size third
  zi_is = size_same (λ r. r.length + r.zero) execution_size own.regions its_plan 2 has_parts.sizes

  parts_is : parts_size own.regions ≡ plan.parts_size its_plan
  parts_is = has_parts.parts

  zero_is : zero_size own.regions ≡ plan.zero_size its_plan
  zero_is = has_parts.zero

  abbrev plain : Filling
  plain = filled (given_of l own) its_plan (zeros 0x80)

  loads_size : length (loaded aif.loads) ≡ parts_size own.regions
  loads_size =
      let header : List ℕ = bytes_of_words (plan.header_words false its_plan base (given_of l own).call) in
      let sized = is_planned.sized false in
      let x = region_bytes plain first in
      let y = region_bytes plain second in
      let z = region_bytes plain third in
      let a0 : length x ≡ length_of first = bytes_size plain first (sized_as (given_of l own) its_plan header first first.things sized.0) in
      let a1 : length y ≡ length_of second = bytes_size plain second (sized_as (given_of l own) its_plan header second second.things sized.1.0) in
      let a2 : length z ≡ length_of third = bytes_size plain third (sized_as (given_of l own) its_plan header third third.things sized.1.1.0) in
      let none : length_of third ≡ 0 = no_length_2 base relocatable (contents_at l a vs) (items_in l.objects) (given_of l own) ram is_planned in
      let all : length (loaded aif.loads) ≡ length (x ++ (y ++ (z ++ []))) = ap length is_of_plan.loads in
      let ro_ = ro_is in
      let rw0 = rw_is in
      let parts : parts_size own.regions ≡ ro_size own.regions + rw_size own.regions = refl in
      omega (arith, all, length-append x (y ++ (z ++ [])), length-append y (z ++ []), length-append z [], a0, a1, a2, none, ro_, rw0, parts)

  is_aif : IsAif aif
  is_aif =
      let w = are_whole in
      let l0 = w.0.loaded in
      let l1 = w.1.0.loaded in
      let l2 = w.1.1.0.loaded in
      let z2 = w.1.1.0.cleared in
      let most = size_most base relocatable (contents_at l a vs) (items_in l.objects) (given_of l own) ram is_planned in
      let low = header_low base relocatable (contents_at l a vs) (items_in l.objects) (given_of l own) ram is_planned in
      let high = is_planned.call_high in
      let ro_ = ro_is in
      let rw0 = rw_is in
      let zi_ = zi_is in
      let parts = parts_is in
      let zero = zero_is in
      let call : aif.call - aif.start ≤ 2 ^ 26 = (let near : (given_of l own).call - base ≤ 2 ^ 26 = omega (arith, high, most) in near) in
      record {
        ro_whole = ap (λ (n : ℕ). n % 4) ro_ ∙ l0;
        rw_whole = ap (λ (n : ℕ). n % 4) rw0 ∙ l1;
        zero_whole = ap (λ (n : ℕ). n % 4) zi_ ∙ (let both : (length_of third + zero_length_of third) % 4 ≡ 0 = omega (arith, l2, z2) in both);
        header = (let least : 0x80 ≤ ro_size own.regions = omega (arith, low, ro_) in least);
        loads = loads_size;
        parts = (let few : parts_size own.regions ≤ 2 ^ 26 = omega (arith, most, parts) in few);
        zeros = (let few : zero_size own.regions < 2 ^ 32 = omega (arith, most, zero) in few);
        base = base_small base relocatable (contents_at l a vs) (items_in l.objects) (given_of l own) ram is_planned;
        call = call;
      }

  bytes_are : AreBytes (aif_file aif)
  bytes_are =
      let ls = loads_are_bytes (link_of l) own l.objects refl h.bytes (description (kind.Aif base relocatable)) in
      let front = joined (bytes_of_words (header_words aif)) (drop 0x80 (loaded aif.loads)) (words_bytes (header_words aif)) (drop_bytes 0x80 (loaded aif.loads) (of_bytes (loaded aif.loads) ls.0)) in
      each_byte (aif_file aif)
      (joined (parts_bytes aif) (cond (can_move aif.kind) (mover_bytes aif.moves) []) front
      (bytes_if (can_move aif.kind) (mover_bytes aif.moves) (words_bytes (relocator_list ++ (aif.moves ++ 0xFFFFFFFF ∷ [])))))

  is_needed : vs ≡ veneers_of (link_of l) a.regions true
  is_needed = are_needed (kind.Aif base relocatable) ram l a vs own h

-- ---- one that can't be moved

module _ (base : ℕ) (ram : Option (List Range32)) (l : Linked) (a : Assigned) (vs : List Veneer)
    (h : IsMade (kind.Aif base false) ram l a vs (placement_of (aif_plan base false (contents_at l a vs)))) (chosen : IsSelection l) where
  abbrev fixed_plan : Plan
  fixed_plan = its_plan base false ram l a vs [] h

  abbrev fixed_own : Placement
  fixed_own = own base false ram l a vs [] h

  abbrev fixed_image : Image
  fixed_image = aif base false ram l a vs [] h

  abbrev fixed_view : ByteMap
  fixed_view = view_at base false l a vs fixed_own

  fixed_parts : HasParts fixed_plan l fixed_own
  fixed_parts = has_parts base false ram l a vs [] h

  its_file : aif_file fixed_image ≡ fixed_aif fixed_plan base (given_of l fixed_own)
  its_file =
      fixed_file base (contents_at l a vs) (items_in l.objects) (given_of l fixed_own) ram fixed_image (made_is_aif base false ram l a vs fixed_own h) refl (is_of_plan base false ram l a vs [] h)

  fixed_seen : IsSeen base false ram l a vs fixed_own fixed_view
  fixed_seen = made_is_seen base false ram l a vs fixed_own h

  loads : IsFixedLoadable (fixed_aif fixed_plan base (given_of l fixed_own)) (plan.parts_size fixed_plan) (plan.zero_size fixed_plan) ((given_of l fixed_own).call - base) base fixed_view
  loads =
      fixed_image_loads base (contents_at l a vs) (items_in l.objects) (given_of l fixed_own) ram fixed_view
      (record { image = made_is_aif base false ram l a vs fixed_own h; shows = fixed_seen.shows })

  fixed_loads : (x : ℕ) → zeroed (Some 0) (file_at (aif_file fixed_image) base) (zero_part base fixed_plan ∷ []) x ≡ fixed_view x
  fixed_loads x =
      ap (λ (f : List ℕ). zeroed (Some 0) (file_at f base) (zero_part base fixed_plan ∷ []) x) its_file
      ∙ cleared_is (fixed_aif fixed_plan base (given_of l fixed_own)) (plan.parts_size fixed_plan) (plan.zero_size fixed_plan) ((given_of l fixed_own).call - base) base fixed_view loads x

  fixed_boots : Boots (file_at (aif_file fixed_image) base) fixed_view (covers (base + parts_size fixed_own.regions) (zero_size fixed_own.regions)) base (aif_bound 0 (zero_size fixed_own.regions))
      (entry_at l fixed_own + flag l.entry.thumb)
  fixed_boots =
      let entry : ℕ = entry_at l fixed_own + flag l.entry.thumb in
      let file : List ℕ = fixed_aif fixed_plan base (given_of l fixed_own) in
      let by_zero : Boots (file_at file base) fixed_view (covers (base + plan.parts_size fixed_plan) (zero_size fixed_own.regions)) base (aif_bound 0 (zero_size fixed_own.regions)) entry =
      subst (λ (z : ℕ). Boots (file_at file base) fixed_view (covers (base + plan.parts_size fixed_plan) z) base (aif_bound 0 z) entry) (sym fixed_parts.zero) (made_fixed_boots base ram l a vs fixed_own h) in
      let by_parts : Boots (file_at file base) fixed_view (covers (base + parts_size fixed_own.regions) (zero_size fixed_own.regions)) base (aif_bound 0 (zero_size fixed_own.regions)) entry =
      subst (λ (n : ℕ). Boots (file_at file base) fixed_view (covers (base + n) (zero_size fixed_own.regions)) base (aif_bound 0 (zero_size fixed_own.regions)) entry) (sym fixed_parts.parts) by_zero in
      subst (λ (f : List ℕ). Boots (file_at f base) fixed_view (covers (base + parts_size fixed_own.regions) (zero_size fixed_own.regions)) base (aif_bound 0 (zero_size fixed_own.regions)) entry) (sym its_file) by_parts

  fixed_placed : HaveMeanings (Some names_of_plain) l → (os : List (Named Object)) → l.objects ≡ os → IsPlacedAs (kind.Aif base false) ram os fixed_image (λ to. fixed_view)
  fixed_placed meanings os objects = record {
    link = l;
    assigned = a;
    veneers = vs;
    placement = fixed_own;
    objects = objects;
    selected = chosen;
    made = h;
    places = refl;
    placed = made_is_placed (kind.Aif base false) ram l a vs fixed_own h;
    needed = is_needed base false ram l a vs [] h;
    told = record {
      form = refl;
      names = loads_named 0 fixed_own.regions (regions_bytes (link_of l) fixed_own) (description (kind.Aif base false));
      regions = refl;
      start = refl;
      bound = ap (aif_bound 0) fixed_parts.zero;
      thumb = refl;
      moves = refl;
    };
    seen = λ to fits. aif_seen base false ram l a vs chosen (is_needed base false ram l a vs [] h) fixed_view fixed_seen meanings;
    files = λ to fits. record { size = ap length its_file ∙ loads.size; cleared = fixed_loads };
    entry = λ to fits. whole_entry base false ram l a vs chosen (is_needed base false ram l a vs [] h) fixed_view fixed_seen;
    reaches = (
      fixed_boots,
      record {
        bytes = bytes_are base false ram l a vs [] h;
        reads = reads_back fixed_image (is_aif base false ram l a vs [] h);
        within = λ to fits x v e.
            let at : to ≡ base = fits in
            let (low, high, is) = loads.inside x v e in
            let parts = parts_is base false ram l a vs [] h in
            let zero = zero_is base false ram l a vs [] h in
            (omega (arith, at, low), (let below : x < to + parts_size fixed_own.regions + zero_size fixed_own.regions = omega (arith, at, high, parts, zero) in below));
        moves = refl;
      },
    );
  }

-- ---- one that can be moved

module _ (base : ℕ) (ram : Option (List Range32)) (l : Linked) (a : Assigned) (vs : List Veneer)
    (h : IsMade (kind.Aif base true) ram l a vs (placement_of (aif_plan base true (contents_at l a vs)))) (chosen : IsSelection l)
    (movable : not_relocatable l (placement_of (aif_plan base true (contents_at l a vs))) ≡ None) where
  abbrev moving_own : Placement
  moving_own = placement_of (aif_plan base true (contents_at l a vs))

  abbrev moving_image : Image
  moving_image = aif base true ram l a vs (moves_of l moving_own) h

  abbrev moving_plan : Plan
  moving_plan = its_plan base true ram l a vs (moves_of l moving_own) h

  its_parts : HasParts moving_plan l moving_own
  its_parts = has_parts base true ram l a vs (moves_of l moving_own) h

  same_moves : moves_of l moving_own ≡ offsets_of (shifts_of (link_of l) moving_own) moving_plan
  same_moves = ap (λ (n : ℕ). shifted_offsets (shifts_of (link_of l) moving_own) 0 (n / 4)) its_parts.parts

  same_file : aif_file moving_image ≡ aif_at base l a vs moving_own
  same_file =
      relocatable_file base (contents_at l a vs) (items_in l.objects) (given_of l moving_own) ram moving_image (shifts_of (link_of l) moving_own) (made_is_aif base true ram l a vs moving_own h) refl
      (is_of_plan base true ram l a vs (moves_of l moving_own) h) same_moves

  abbrev moved_views : ℕ → ByteMap
  moved_views to = view_at to true l a vs (placement_at to l a vs)

  abbrev moved_entry : ℕ → ℕ
  moved_entry to = to + (entry_at l moving_own - base) + flag l.entry.thumb

  moving_boots : BootsAif (aif_file moving_image) (parts_size moving_own.regions) (zero_size moving_own.regions) moved_views (aif_bound (length (moves_of l moving_own)) (zero_size moving_own.regions)) moved_entry
  moving_boots =
      let boots = made_moving_boots base ram l a vs moving_own h movable in
      let by_moves : BootsAif (aif_at base l a vs moving_own) (plan.parts_size moving_plan) (plan.zero_size moving_plan) moved_views
      (aif_bound (length (moves_of l moving_own)) (plan.zero_size moving_plan)) moved_entry =
      subst (λ (ms : List ℕ). BootsAif (aif_at base l a vs moving_own) (plan.parts_size moving_plan) (plan.zero_size moving_plan) moved_views (aif_bound (length ms) (plan.zero_size moving_plan)) moved_entry)
      (sym same_moves) boots in
      let by_zero : BootsAif (aif_at base l a vs moving_own) (plan.parts_size moving_plan) (zero_size moving_own.regions) moved_views (aif_bound (length (moves_of l moving_own)) (zero_size moving_own.regions)) moved_entry =
      subst (λ (z : ℕ). BootsAif (aif_at base l a vs moving_own) (plan.parts_size moving_plan) z moved_views (aif_bound (length (moves_of l moving_own)) z) moved_entry) (sym its_parts.zero) by_moves in
      let by_parts : BootsAif (aif_at base l a vs moving_own) (parts_size moving_own.regions) (zero_size moving_own.regions) moved_views (aif_bound (length (moves_of l moving_own)) (zero_size moving_own.regions)) moved_entry =
      subst (λ (n : ℕ). BootsAif (aif_at base l a vs moving_own) n (zero_size moving_own.regions) moved_views (aif_bound (length (moves_of l moving_own)) (zero_size moving_own.regions)) moved_entry) (sym its_parts.parts) by_zero in
      subst (λ (f : List ℕ). BootsAif f (parts_size moving_own.regions) (zero_size moving_own.regions) moved_views (aif_bound (length (moves_of l moving_own)) (zero_size moving_own.regions)) moved_entry) (sym same_file) by_parts

  -- ---- at an address

  module _ (to : ℕ) (fits : HasRoom moving_image to) where
    abbrev moved_plan : Plan
    moved_plan = aif_plan to true (contents_at l a vs)

    has_room : HasRoomAt (aif_at base l a vs moving_own) (plan.parts_size moving_plan) (plan.zero_size moving_plan) to
    has_room = record {
      whole = fits.whole;
      file_room = subst (λ (f : List ℕ). to + length f ≤ 2 ^ 32) same_file fits.file;
      zero_room = subst (λ (z : ℕ). to + plan.parts_size moving_plan + z ≤ 2 ^ 32) its_parts.zero (subst (λ (n : ℕ). to + n + zero_size moving_own.regions ≤ 2 ^ 32) its_parts.parts fits.zero);
    }

    moved_seen : IsSeen to true None l a vs (placement_at to l a vs) (moved_views to)
    moved_seen = moved_is_seen base to ram l a vs moving_own h movable has_room

    seen_there : HaveMeanings (Some names_of_plain) l → AreSeenBy (kind.Aif to true) moved_plan l (moved_views to)
    seen_there meanings = aif_seen to true None l a vs chosen (is_needed base true ram l a vs (moves_of l moving_own) h) (moved_views to) moved_seen meanings

    becomes : ShowsImage (aif_file moving_image) (plan.parts_size moved_plan) (plan.zero_size moved_plan) base (moves_of l moving_own) to (moved_views to)
    becomes =
        subst (λ (ms : List ℕ). ShowsImage (aif_file moving_image) (plan.parts_size moved_plan) (plan.zero_size moved_plan) base ms to (moved_views to)) (sym same_moves)
        (subst (λ (f : List ℕ). ShowsImage f (plan.parts_size moved_plan) (plan.zero_size moved_plan) base (offsets_of (shifts_of (link_of l) moving_own) moving_plan) to (moved_views to)) (sym same_file)
        (becomes_there base ram l a vs moving_own h movable to has_room))

    moving_size : length (aif_file moving_image) ≡ plan.parts_size moved_plan + 60 + 4 * length (moves_of l moving_own) + 4
    moving_size =
        ap length same_file ∙ size_there base ram l a vs moving_own h movable to has_room
        ∙ ap (λ (ms : List ℕ). plan.parts_size moved_plan + 60 + 4 * length ms + 4) (sym same_moves)

    abbrev Relocates : List ℕ → List ℕ → Type 0
    Relocates f ms = IsRelocatable (shifted_file f to) to (plan.parts_size moved_plan) (plan.zero_size moved_plan) base (called l.entry.thumb l moving_own - base) ms

    relocates : Relocates (aif_file moving_image) (moves_of l moving_own)
    relocates =
        subst (Relocates (aif_file moving_image)) (sym same_moves)
        (subst (λ (f : List ℕ). Relocates f (offsets_of (shifts_of (link_of l) moving_own) moving_plan)) (sym same_file) (relocator_there base ram l a vs moving_own h movable to has_room))

    entry_there : to + (entry_at l moving_own - base) ≡ entry_by moved_plan l
    entry_there =
        sym (entry_moves base ram l a vs moving_own h movable to has_room)
        ∙ whole_entry to true None l a vs chosen (is_needed base true ram l a vs (moves_of l moving_own) h) (moved_views to) moved_seen

  moving_placed : HaveMeanings (Some names_of_plain) l → (os : List (Named Object)) → l.objects ≡ os → IsPlacedAs (kind.Aif base true) ram os moving_image moved_views
  moving_placed meanings os objects = record {
    link = l;
    assigned = a;
    veneers = vs;
    placement = moving_own;
    objects = objects;
    selected = chosen;
    made = h;
    places = refl;
    placed = made_is_placed (kind.Aif base true) ram l a vs moving_own h;
    needed = is_needed base true ram l a vs (moves_of l moving_own) h;
    told = record {
      form = refl;
      names = loads_named 0 moving_own.regions (regions_bytes (link_of l) moving_own) (description (kind.Aif base true));
      regions = refl;
      start = refl;
      bound = ap (aif_bound (length (moves_of l moving_own))) its_parts.zero;
      thumb = refl;
      moves = same_moves;
    };
    seen = λ to fits. seen_there to fits meanings;
    files = λ to fits. record { size = moving_size to fits; image = relocates to fits; becomes = becomes to fits };
    entry = entry_there;
    reaches = (
      moving_boots,
      record {
        bytes = bytes_are base true ram l a vs (moves_of l moving_own) h;
        reads = reads_back moving_image (is_aif base true ram l a vs (moves_of l moving_own) h);
        within = λ to fits x v e.
            let (low, high, is) = (becomes to fits).inside x v e in
            let parts = parts_is base true ram l a vs (moves_of l moving_own) h in
            let zero = zero_is base true ram l a vs (moves_of l moving_own) h in
            let same_parts = parts_at to (contents_at l a vs) ∙ sym (parts_at base (contents_at l a vs)) in
            let same_zero = zero_at to (contents_at l a vs) ∙ sym (zero_at base (contents_at l a vs)) in
            (low, (let below : x < to + parts_size moving_own.regions + zero_size moving_own.regions = omega (arith, high, parts, zero, same_parts, same_zero) in below));
        moves = refl;
      },
    );
  }

-- ---- as it is answered

fixed_answered : (base : ℕ) (ram : Option (List Range32)) (os : List (Named Object)) (i : Image) → IsAnswered (kind.Aif base false) ram os i → HasViews (kind.Aif base false) ram os i
fixed_answered base ram os i n =
    let p : Placement = placement_of (link_plan (kind.Aif base false) n.linked n.assigned.regions n.veneers) in
    subst (HasViews (kind.Aif base false) ram os) (still_image (kind.Aif base false) ram i n.linked n.assigned n.veneers p refl n.answer)
    ((λ to. fixed_view base ram n.linked n.assigned n.veneers n.answer.made n.selection), fixed_placed base ram n.linked n.assigned n.veneers n.answer.made n.selection n.meanings os n.objects)

moving_answered : (base : ℕ) (ram : Option (List Range32)) (os : List (Named Object)) (i : Image) → IsAnswered (kind.Aif base true) ram os i → HasViews (kind.Aif base true) ram os i
moving_answered base ram os i n =
    let p : Placement = placement_of (link_plan (kind.Aif base true) n.linked n.assigned.regions n.veneers) in
    let (movable, listed) = not_refused (not_relocatable n.linked p) (moves_of n.linked p) n.answer.moves n.answer.listed in
    let image : moving_image base ram n.linked n.assigned n.veneers n.answer.made n.selection movable ≡ i =
    ap (λ (ms : List ℕ). image_of (kind.Aif base true) (made_by n.linked n.assigned n.veneers p) ms) (sym listed) ∙ n.answer.image in
    subst (HasViews (kind.Aif base true) ram os) image
    (moved_views base ram n.linked n.assigned n.veneers n.answer.made n.selection movable, moving_placed base ram n.linked n.assigned n.veneers n.answer.made n.selection movable n.meanings os n.objects)

aif_answered : (base : ℕ) (relocatable : Bool) (ram : Option (List Range32)) (os : List (Named Object)) (i : Image) → IsAnswered (kind.Aif base relocatable) ram os i
    → HasViews (kind.Aif base relocatable) ram os i
aif_answered base false ram os i n = fixed_answered base ram os i n
aif_answered base true ram os i n = moving_answered base ram os i n

pub images_are_placed : ReadingLaw → ImagesArePlaced
images_are_placed law (kind.Scatter s) ram os i sound (text, at) h = scatter_views law s text at ram os i sound h
images_are_placed law (kind.Plain base) ram os i sound whole h = plain_views base ram os i sound whole h
images_are_placed law (kind.Aif base relocatable) ram os i sound whole h =
    aif_answered base relocatable ram os i (answered (kind.Aif base relocatable) ram os i sound (whole, tt) (whole, (refl, (refl, tt))) h)
