-- A scatter image that is placed without a refusal starts.
use Rattle.std.proofs.Common.{◌≡◌, ℕ, ◌+◌, ◌-◌, ◌*◌, ◌^◌, ◌<◌, ◌≤◌, Bool, true, false, if◌then◌else◌, List, [], ◌∷◌, ◌++◌, length, map, refl, sym, ap, subst, ◌∙◌, arith, leb-true, Option, Some, None}
use Rattle.std.specs.Prelude.{slice_get, nat_lt}
use Rattle.std.specs.List.{filter, AllByRecursion}
use Rattle.std.specs.Option.{option_map, option_or}
use Rattle.base_lemmas.proofs.BaseLemmas.{all_front, all_weaker, same}
use Rattle.sdt_word.specs.declared.ranges.Range32.{Range32}
use Rattle.sdt_fault.specs.declared.kinds.Quantity.TheVariants.{ImageBytes}
use Rattle.sdt_fault.specs.declared.refusal.Refusal.TheVariants.{NoRoot, TooLarge}
use Rattle.boot_code.specs.Startup.{table_list, zeros}
use Rattle.boot_code.specs.Words.{boot_list}
use Rattle.boot_code.proofs.BootPlaces.{startup_boots}
use Rattle.boot_code.proofs.ViewLemmas.{length-zeros, get_or-zeros}
use Rattle.boot_code.specs.Maps.{Segment, Holds, map_of, bytes_of_words}
use Rattle.boot_code.proofs.MapLemmas.{front, back}
use Rattle.place_model.specs.declared.scatter.Kind.TheVariants as kind
use Rattle.place_model.specs.declared.scatter.Scatter.{Scatter}
use Rattle.place_model.specs.Things.{Startup, size_of, gap, extent}
use Rattle.place_model.specs.Plans.{Contents, Planned, length_of, zero_base_of, zero_length_of, execution_size, load_size, Plan, regions_of, is_root, is_copied, copies_of, parts_of, table_words}
use Rattle.place_model.specs.Faults.{first_told, rootless, judged, judged_load, judged_region, overfull, shared, standing, load_meeting, execution_span, execution_meeting, copy_move, source_span, target_span, overlap, copy_conflict, image_bytes, too_large, aif_too_large, not_writable, as_overlap, as_conflict, place_refusal}
use Rattle.place_model.proofs.ListLemmas.{all_at, all_indexed, all_of_flat, all_below_sum, none_given, Pairs, pairs_map}
use Rattle.place_model.proofs.GapLemmas.{extent-append}
use Rattle.place_model.proofs.SpanLemmas.{or_none, map_none, meeting_none, in_memory, lt-false}
use Rattle.place_model.specs.Laws.{IsWholeRegion}
use Rattle.place_model.proofs.PlanLemmas.{table_law, whole_law, loads_loaded}
use Rattle.image_model.specs.Regions.{Given, Filling, laid, region_bytes, filled}
use Rattle.image_laws.specs.Laws.{scatter_plan, IsImage, ImagePlaces, ImageBoots}
use Rattle.image_laws.proofs.RegionLemmas.{Sizes, length-laid, laid-append, Begins, begins, startup_stands}
use Rattle.image_laws.proofs.FileLemmas.{rooms}
use Rattle.image_laws.proofs.MovedLemmas.{copies_in, parts_in}
use Rattle.image_laws.proofs.Joined.{Sound, AreJoined, joined_places}

-- ---- what it says that nothing is refused

pub record IsAccepted (s : Scatter) (p : Plan) : Type 0 where
  pub rooted : rootless (regions_of p) ≡ None
  pub loads : AllByRecursion (λ l. l.base + load_size l ≤ 2 ^ 32) p
  pub rooms : AllByRecursion (λ r. r.base + execution_size r ≤ 2 ^ 32) (regions_of p)
  pub apart : Pairs (λ r l. shared (execution_span r) (execution_span l) ≡ None) (regions_of p)
  pub conflicts : Pairs (λ r l. shared (target_span r) (source_span l) ≡ None) (filter is_copied (regions_of p))
  pub small : AllByRecursion (λ r. execution_size r ≤ 2 ^ 26) (regions_of p)

pub accepted_facts : (s : Scatter) (ram : Option (List Range32)) (p : Plan) → place_refusal (kind.Scatter s) ram p ≡ None → IsAccepted s p
accepted_facts s ram p h =
    let k = kind.Scatter s in
    let tail5 = option_or (aif_too_large k p) (not_writable ram p) in
    let tail4 = option_or (too_large p) tail5 in
    let tail3 = option_or (option_map as_conflict (copy_conflict p)) tail4 in
    let tail2 = option_or (option_map as_overlap (overlap p)) tail3 in
    let tail1 = option_or (first_told overfull (judged k p)) tail2 in
    let (root, h1) = or_none (rootless (regions_of p)) tail1 h in
    let (full, h2) = or_none (first_told overfull (judged k p)) tail2 h1 in
    let (meets, h3) = or_none (option_map as_overlap (overlap p)) tail3 h2 in
    let (conflict, h4) = or_none (option_map as_conflict (copy_conflict p)) tail4 h3 in
    let (large, h5) = or_none (too_large p) tail5 h4 in
    let of_regions = (or_none (load_meeting p) (execution_meeting p) (map_none as_overlap (overlap p) meets)).1 in
    let fine = all_of_flat (λ j. overfull j ≡ None) (λ l. judged_load k l ++ map judged_region l.regions) p (none_given overfull (judged k p) full) in
    record {
      rooted = root;
      loads = all_weaker _ (λ l. l.base + load_size l ≤ 2 ^ 32) (λ l all. in_memory (record { name = l.name; base = l.base; size = load_size l; maximum = l.maximum }) all.0) p fine;
      rooms = rooms (kind.Scatter s) ram p h;
      apart = pairs_map (λ m n. shared m.written n.read ≡ None) (λ r. standing (execution_span r)) (regions_of p) (meeting_none (map (λ r. standing (execution_span r)) (regions_of p)) of_regions);
      conflicts = pairs_map (λ m n. shared m.written n.read ≡ None) copy_move (filter is_copied (regions_of p)) (meeting_none (map copy_move (filter is_copied (regions_of p))) (map_none as_conflict (copy_conflict p) conflict));
      small = all_below_sum execution_size (regions_of p) (2 ^ 26) (go (nat_lt (2 ^ 26) (image_bytes p)) refl large);
    }
  where
    go : (b : Bool) → nat_lt (2 ^ 26) (image_bytes p) ≡ b → (if b then Some (TooLarge ImageBytes (2 ^ 26)) else None) ≡ None → image_bytes p ≤ 2 ^ 26
    go true e n = absurd cc
    go false e n = lt-false (2 ^ 26) (image_bytes p) e

root_first : (rs : List Planned) (r : Planned) (rest : List Planned) → rs ≡ r ∷ rest → rootless rs ≡ None → is_root r ≡ true
root_first rs r rest e h = go (is_root r) (sym (ap rootless e) ∙ h)
  where
    go : (b : Bool) → (if b then None else Some (NoRoot r.name)) ≡ None → b ≡ true
    go true n = refl
    go false n = absurd cc

-- ---- the image

module _ (s : Scatter) (c : Contents) (g : Given) (ram : Option (List Range32)) (view : ℕ → Option ℕ) (files : List Segment) (a : ℕ) (i : IsImage s c g ram view files a) where
  abbrev p : Plan
  p = scatter_plan s c

  abbrev rs : List Planned
  rs = regions_of p

  abbrev held : Filling
  held = filled g p []

  abbrev words : ℕ
  words = table_words (kind.Scatter s) c

  facts : IsAccepted s p
  facts = accepted_facts s ram p i.accepted

  sound : AllByRecursion (Sound (map_of files) view) rs
  sound = all_indexed (Sound (map_of files) view) rs (λ n r at.
      let size : length (region_bytes held r) ≡ length_of r = length-laid (held r) r.origin r.base r.things (all_at (λ q. Sizes (held q) q.things) rs n r i.sized at) in
      let loaded : Holds view r.base (region_bytes held r) = all_at (λ q. Holds view q.base (region_bytes held q)) rs n r i.shows.loaded at in
      let cleared : Holds view (zero_base_of r) (zeros (zero_length_of r)) = all_at (λ q. Holds view (zero_base_of q) (zeros (zero_length_of q))) rs n r i.shows.cleared at in
      record {
        whole = all_at IsWholeRegion rs n r (whole_law (kind.Scatter s) c words i.whole) at;
        load_room = all_at (λ q. q.load + length_of q ≤ 2 ^ 32) rs n r (loads_loaded (kind.Scatter s) c words 0 s.loads (2 ^ 32) facts.loads) at;
        room = all_at (λ q. q.base + execution_size q ≤ 2 ^ 32) rs n r facts.rooms at;
        small = all_at (λ q. execution_size q ≤ 2 ^ 26) rs n r facts.small at;
        brings = all_at (λ q. (k : ℕ) → k < length_of q → map_of files (q.load + k) ≡ view (q.base + k)) rs n r i.loads.shows at;
        shows = λ k lt. (_, loaded k (omega (arith, size, lt)));
        zeros = λ k lt. cleared k (omega (arith, length-zeros (zero_length_of r), lt)) ∙ ap Some (get_or-zeros (zero_length_of r) k);
      })

  begun : Begins words rs
  begun = begins s c words s.loads a i.boot

  abbrev region : Planned
  region = begun.region

  -- where the things before the startup code end
  abbrev behind : ℕ
  behind = region.base + extent region.origin region.base begun.before

  region_at : slice_get rs 0 ≡ Some region
  region_at = ap (λ (xs : List Planned). slice_get xs 0) begun.whole

  starts : a ≡ behind + gap region.origin 4 behind
  starts = same a (behind + gap region.origin 4 behind) (sym i.boot ∙ startup_stands words rs begun)

  extents : length_of region ≡ extent region.origin region.base begun.before + (gap region.origin 4 behind + 4 * (42 + words))
  extents =
      let apart : length_of region ≡ extent region.origin region.base (begun.before ++ Startup words ∷ []) = ap (extent region.origin region.base) begun.things in
      let sum = extent-append region.origin region.base begun.before (Startup words ∷ []) in
      omega (arith, apart, sum)

  front_sizes : Sizes (held region) begun.before
  front_sizes =
      let all : Sizes (held region) region.things = all_at (λ q. Sizes (held q) q.things) rs 0 region i.sized region_at in
      all_front (λ t. length (held region t) ≡ size_of t) begun.before (Startup words ∷ []) (subst (Sizes (held region)) begun.things all)

  abbrev code : List ℕ
  code = bytes_of_words (boot_list ++ table_list (copies_in rs) (parts_in rs) g.entry)

  abbrev rest_of_table : List ℕ
  rest_of_table = zeros (4 * (words - length (table_list (copies_in rs) (parts_in rs) g.entry)))

  holds : Holds view a code
  holds =
      let before : List ℕ = laid (held region) region.origin region.base begun.before in
      let filler : List ℕ = zeros (gap region.origin 4 behind) in
      let split : region_bytes held region ≡ before ++ (filler ++ ((code ++ rest_of_table) ++ [])) =
      ap (laid (held region) region.origin region.base) begun.things ∙ laid-append (held region) region.origin region.base begun.before (Startup words ∷ []) in
      let loaded : Holds view region.base (region_bytes held region) = all_at (λ q. Holds view q.base (region_bytes held q)) rs 0 region i.shows.loaded region_at in
      let all : Holds view region.base (before ++ (filler ++ ((code ++ rest_of_table) ++ []))) = subst (Holds view region.base) split loaded in
      let behind_things = back view region.base before (filler ++ ((code ++ rest_of_table) ++ [])) all in
      let behind_filler = back view (region.base + length before) filler ((code ++ rest_of_table) ++ []) behind_things in
      let there = front view (region.base + length before + length filler) code rest_of_table (front view (region.base + length before + length filler) (code ++ rest_of_table) [] behind_filler) in
      let At : ℕ → Type 0 = λ x. Holds view x code in
      subst At (omega (arith, starts, length-laid (held region) region.origin region.base begun.before front_sizes, length-zeros (gap region.origin 4 behind))) there

  joined : AreJoined rs (map_of files) view a words g.entry
  joined =
      let whole = all_at IsWholeRegion rs 0 region (whole_law (kind.Scatter s) c words i.whole) region_at in
      let whole_base = whole.base in let whole_length = whole.loaded in
      record {
        sound = sound;
        domain = i.shows.domain;
        apart = facts.apart;
        conflicts = facts.conflicts;
        first = region;
        at = region_at;
        root = root_first rs region begun.rest begun.whole facts.rooted;
        above = omega (arith, starts);
        below = omega (arith, starts, extents);
        multiple = omega (arith, starts, extents, whole_base, whole_length);
        holds = holds;
        fits = leb-true (3 * length (copies_of p) + 2 * length (parts_of p) + 6) words (table_law s c).enough;
        entry_small = i.entry_small;
        entry_fair = i.entry_fair;
      }

pub image_places : ImagePlaces
image_places s c g ram view files a i = joined_places (rs s c g ram view files a i) (map_of files) view a (words s c g ram view files a i) g.entry (joined s c g ram view files a i)

pub image_boots : ImageBoots
image_boots s c g ram view files a i =
    startup_boots (map_of files) view (copies_of (scatter_plan s c)) (parts_of (scatter_plan s c)) g.entry a (image_places s c g ram view files a i)
