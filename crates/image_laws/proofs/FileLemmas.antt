-- The files of a plan without a refusal.
use Rattle.std.proofs.Common.{◌≡◌, ℕ, suc, ◌+◌, ◌^◌, ◌<◌, ◌≤◌, List, [], ◌∷◌, ◌++◌, length, length-append, map, refl, sym, ap, subst, ◌∙◌, arith, Option, Some, None}
use Rattle.std.specs.Prelude.{sum_by}
use Rattle.std.specs.List.{flat_map, AllByRecursion}
use Rattle.std.specs.Option.{option_map, option_or}
use Rattle.std.proofs.lemmas.List.Sums.{sum_by-cons}
use Rattle.base_lemmas.proofs.BaseLemmas.{all_append, all_back, all_weaker}
use Rattle.sdt_word.specs.declared.ranges.Range32.{Range32}
use Rattle.boot_code.specs.Boots.{ByteMap, moved, zeroed}
use Rattle.boot_code.specs.Startup.{zeros}
use Rattle.boot_code.proofs.ViewLemmas.{length-zeros, get_or-zeros}
use Rattle.boot_code.specs.Maps.{Segment, map_of, Holds}
use Rattle.boot_code.proofs.MapLemmas.{shown, front, back}
use Rattle.place_model.specs.declared.scatter.Kind.{Kind}
use Rattle.place_model.specs.declared.scatter.ScatterLoad.{ScatterLoad}
use Rattle.place_model.specs.declared.scatter.ScatterRegion.{ScatterRegion}
use Rattle.place_model.specs.Things.{size_of}
use Rattle.place_model.specs.Assignment.{description}
use Rattle.place_model.specs.Plans.{Contents, Planned, length_of, zero_base_of, zero_length_of, execution_size, end_of, zero_row, copies_of, parts_of, planned, planned_from, PlannedLoad, load_size, loads_from, Plan, regions_of, table_words, plan_of}
use Rattle.place_model.specs.Faults.{first_told, rootless, judged, overfull, judged_load, judged_region, shared, standing, load_span, load_meeting, execution_meeting, overlap, copy_conflict, too_large, aif_too_large, not_writable, as_overlap, as_conflict, place_refusal}
use Rattle.place_model.specs.Laws.{IsLeastShared}
use Rattle.place_model.proofs.ListLemmas.{all_at, all_indexed, all_of_map, all_of_flat, all_flat, none_given, Pairs, pairs_map}
use Rattle.place_model.proofs.SpanLemmas.{shared_law, or_none, map_none, meeting_none, in_memory}
use Rattle.image_model.specs.Regions.{Filling, region_bytes, AreSized}
use Rattle.image_model.specs.Views.{IsView, IsLoadView, view_of, file_of, files_of}
use Rattle.image_laws.specs.Laws.{ViewLaw}
use Rattle.image_laws.proofs.MovedLemmas.{moved_shows}
use Rattle.image_laws.proofs.RegionLemmas.{Sizes}
use Rattle.image_laws.proofs.RowLemmas.{IsZeros}
use Rattle.image_laws.proofs.ViewLemmas.{Sound, bytes_size, not_in, past, is_view, one_view, view_things, view_gaps}

-- ---- no two ranges meet

pub overlap_none : (k : Kind) (ram : Option (List Range32)) (p : Plan) → place_refusal k ram p ≡ None → overlap p ≡ None
overlap_none k ram p h =
    let tail4 = option_or (too_large p) (option_or (aif_too_large k p) (not_writable ram p)) in
    let tail3 = option_or (option_map as_conflict (copy_conflict p)) tail4 in
    let tail2 = option_or (option_map as_overlap (overlap p)) tail3 in
    let tail1 = option_or (first_told overfull (judged k p)) tail2 in
    let h1 = (or_none (rootless (regions_of p)) tail1 h).1 in
    let h2 = (or_none (first_told overfull (judged k p)) tail2 h1).1 in
    map_none as_overlap (overlap p) (or_none (option_map as_overlap (overlap p)) tail3 h2).0

-- ---- each region ends in memory

pub rooms : (k : Kind) (ram : Option (List Range32)) (p : Plan) → place_refusal k ram p ≡ None → AllByRecursion (λ r. r.base + execution_size r ≤ 2 ^ 32) (regions_of p)
rooms k ram p h =
    let tail3 = option_or (option_map as_conflict (copy_conflict p)) (option_or (too_large p) (option_or (aif_too_large k p) (not_writable ram p))) in
    let tail2 = option_or (option_map as_overlap (overlap p)) tail3 in
    let tail1 = option_or (first_told overfull (judged k p)) tail2 in
    let full = (or_none (first_told overfull (judged k p)) tail2 (or_none (rootless (regions_of p)) tail1 h).1).0 in
    let fine = all_of_flat (λ j. overfull j ≡ None) (λ l. judged_load k l ++ map judged_region l.regions) p (none_given overfull (judged k p) full) in
    all_flat (λ r. r.base + execution_size r ≤ 2 ^ 32) (λ l. l.regions) p
    (all_weaker (λ l. AllByRecursion (λ j. overfull j ≡ None) (judged_load k l ++ map judged_region l.regions)) (λ l. AllByRecursion (λ r. r.base + execution_size r ≤ 2 ^ 32) l.regions)
    (λ l all. all_weaker (λ r. overfull (judged_region r) ≡ None) (λ r. r.base + execution_size r ≤ 2 ^ 32) (λ r none. in_memory (judged_region r) none) l.regions
    (all_of_map (λ j. overfull j ≡ None) judged_region l.regions (all_back (λ j. overfull j ≡ None) (judged_load k l) (map judged_region l.regions) all))) p fine)

-- ---- lengths

file_size : (held : Filling) (rs : List Planned) → Sound held rs → length (flat_map (region_bytes held) rs) ≡ sum_by length_of rs
file_size held [] sizes = refl
file_size held (r ∷ rs) sizes =
    let size = bytes_size held r sizes.0 in
    let rest = file_size held rs sizes.1 in
    omega (arith, length-append (region_bytes held r) (flat_map (region_bytes held) rs), size, rest, sum_by-cons length_of r rs)

bases : (held : Filling) (p : Plan) → map (λ s. s.base) (files_of p held) ≡ map (λ l. l.base) p
bases held [] = refl
bases held (l ∷ p) = ap (λ (xs : List ℕ). l.base ∷ xs) (bases held p)

sizes : (held : Filling) (p : Plan) → AllByRecursion (λ l. Sound held l.regions) p → map (λ s. length s.bytes) (files_of p held) ≡ map load_size p
sizes held [] all = refl
sizes held (l ∷ p) all =
    ap (λ (n : ℕ). n ∷ map (λ s. length s.bytes) (files_of p held)) (file_size held l.regions all.0) ∙ ap (λ (xs : List ℕ). load_size l ∷ xs) (sizes held p all.1)

-- ---- what the files have

abbrev IsLoaded : Filling → ByteMap → PlannedLoad → Type 0
IsLoaded held m l = Holds m l.base (flat_map (region_bytes held) l.regions)

off_load : (held : Filling) (l q : PlannedLoad) → Sound held l.regions → Sound held q.regions → shared (load_span l) (load_span q) ≡ None
    → (k : ℕ) → k < length (flat_map (region_bytes held) q.regions) → q.base + k < l.base + length (flat_map (region_bytes held) l.regions) → l.base ≤ q.base + k → ⊥
off_load held l q own other none k lt to from =
    let a = file_size held l.regions own in
    let b = file_size held q.regions other in
    (subst (IsLeastShared (load_span l) (load_span q)) none (shared_law (load_span l) (load_span q))) (q.base + k)
    (record { from_base = from; below_end = omega (arith, to, a) }) (record { from_base = omega arith; below_end = omega (arith, lt, b) })

passed : (held : Filling) (l : PlannedLoad) (ss : List Segment) (p : Plan) → Sound held l.regions → AllByRecursion (λ q. Sound held q.regions) p → AllByRecursion (λ q. shared (load_span l) (load_span q) ≡ None) p
    → AllByRecursion (IsLoaded held (map_of ss)) p → AllByRecursion (IsLoaded held (map_of (file_of held l ∷ ss))) p
passed held l ss [] own all off h = tt
passed held l ss (q ∷ p) own all off h = (
  past (file_of held l) ss q.base (flat_map (region_bytes held) q.regions) (λ k lt. not_in l.base (length (flat_map (region_bytes held) l.regions)) (q.base + k) (λ from to. off_load held l q own all.0 off.0 k lt to from)) h.0,
  passed held l ss p own all.1 off.1 h.1,
)

loaded_all : (held : Filling) (p : Plan) → AllByRecursion (λ l. Sound held l.regions) p → Pairs (λ l q. shared (load_span l) (load_span q) ≡ None) p → AllByRecursion (IsLoaded held (map_of (files_of p held))) p
loaded_all held [] all off = tt
loaded_all held (l ∷ p) all off = (shown [] (file_of held l) (files_of p held) tt, passed held l (files_of p held) p all.0 all.1 off.0 (loaded_all held p all.1 off.1))

-- each region at its load address
abbrev IsRegionLoaded : Filling → ByteMap → Planned → Type 0
IsRegionLoaded held m r = Holds m r.load (region_bytes held r)

regions_loaded : (held : Filling) (m : ByteMap) (k : Kind) (c : Contents) (words region : ℕ) (rs : List ScatterRegion) (before load : ℕ) → Sound held (planned_from k c words region rs before load)
    → Holds m load (flat_map (region_bytes held) (planned_from k c words region rs before load)) → AllByRecursion (IsRegionLoaded held m) (planned_from k c words region rs before load)
regions_loaded held m k c words region [] before load all h = tt
regions_loaded held m k c words region (r ∷ rs) before load all h =
    let p : Planned = planned k c words region r before load in
    let later : List ℕ = flat_map (region_bytes held) (planned_from k c words (suc region) rs (end_of p) (load + length_of p)) in
    let size = bytes_size held p all.0 in
    let At : ℕ → Type 0 = λ x. Holds m x later in
    (front m load (region_bytes held p) later h, regions_loaded held m k c words (suc region) rs (end_of p) (load + length_of p) all.1 (subst At (omega (arith, size)) (back m load (region_bytes held p) later h)))

loads_loaded : (held : Filling) (m : ByteMap) (k : Kind) (c : Contents) (words region : ℕ) (ls : List ScatterLoad) → AllByRecursion (λ l. Sound held l.regions) (loads_from k c words region ls)
    → AllByRecursion (IsLoaded held m) (loads_from k c words region ls) → AllByRecursion (IsRegionLoaded held m) (regions_of (loads_from k c words region ls))
loads_loaded held m k c words region [] all h = tt
loads_loaded held m k c words region (l ∷ ls) all h =
    all_append (IsRegionLoaded held m) (planned_from k c words region l.regions l.base l.base) (regions_of (loads_from k c words (region + length l.regions) ls))
    (regions_loaded held m k c words region l.regions l.base l.base all.0 h.0)
    (loads_loaded held m k c words (region + length l.regions) ls all.1 h.1)

pub is_load_view : (k : Kind) (c : Contents) (ram : Option (List Range32)) (held : Filling) → place_refusal k ram (plan_of k c) ≡ None → AreSized held (plan_of k c)
    → IsLoadView (plan_of k c) (view_of (plan_of k c) held) (files_of (plan_of k c) held)
is_load_view k c ram held none all =
    let p : Plan = plan_of k c in
    let (of_loads, of_regions) = or_none (load_meeting p) (execution_meeting p) (overlap_none k ram p none) in
    let by_load = all_of_flat (λ r. AllByRecursion (λ t. length (held r t) ≡ size_of t) r.things) (λ l. l.regions) p all in
    let view = is_view p held of_regions all in
    let loaded = loads_loaded held (map_of (files_of p held)) k c (table_words k c) 0 (description k) by_load (loaded_all held p by_load (pairs_map (λ m n. shared m.written n.read ≡ None) (λ l. standing (load_span l)) p (meeting_none (map (λ l. standing (load_span l)) p) of_loads))) in
    record {
      bases = bases held p;
      sizes = sizes held p by_load;
      shows = all_indexed (λ r. (n : ℕ) → n < length_of r → map_of (files_of p held) (r.load + n) ≡ view_of p held (r.base + n)) (regions_of p)
          (λ i r at n lt.
          let size = bytes_size held r (all_at (λ q. Sizes (held q) q.things) (regions_of p) i r all at) in
          all_at (IsRegionLoaded held (map_of (files_of p held))) (regions_of p) i r loaded at n (omega (arith, lt, size))
          ∙ sym (all_at (λ q. Holds (view_of p held) q.base (region_bytes held q)) (regions_of p) i r view.loaded at n (omega (arith, lt, size))));
    }

pub moved_view : (p : Plan) (held : Filling) (view : ByteMap) (files : List Segment) → IsView p held view → IsLoadView p view files
    → (x b : ℕ) → view x ≡ Some b → zeroed (Some 0) (moved (map_of files) (copies_of p)) (parts_of p) x ≡ Some b
moved_view p held view files v f =
    moved_shows (regions_of p) (map_of files) view f.shows
    (all_weaker (λ r. Holds view (zero_base_of r) (zeros (zero_length_of r))) (λ r. IsZeros view (zero_row r))
    (λ r h k lt. h k (omega (arith, length-zeros (zero_length_of r), lt)) ∙ ap Some (get_or-zeros (zero_length_of r) k)) (regions_of p) v.cleared)
    v.domain

pub view_law : ViewLaw
view_law = record { view = is_view; once = one_view; things = view_things; gaps = view_gaps; files = is_load_view; moved = moved_view }
