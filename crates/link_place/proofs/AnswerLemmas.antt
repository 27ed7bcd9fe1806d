-- The layout with the least table is the plan, with all that is told of it.
use Rattle.std.proofs.Common.{◌≡◌, ℕ, zero, suc, ◌+◌, ◌*◌, ◌≤◌, ◌<◌, ◌^◌, Bool, true, false, cond, List, [], ◌∷◌, ◌++◌, length, map, refl, ap, sym, ◌∙◌, append-nil, subst, arith, Option, Some, None, Result, Ok, Err, take, drop, length-append}
use Rattle.std.specs.Prelude.{IfOk, nat_le, sum_by}
use Rattle.std.specs.List.{flat_map}
use Rattle.std.specs.Option.{option_or}
use Rattle.std.proofs.lemmas.List.{length-map, map-append}
use Rattle.std.proofs.Math.Seq.{take-append_seam, drop-append_seam}
use Rattle.std.proofs.lemmas.List.Sums.{sum_by-cons}
use Rattle.sdt_word.specs.declared.ranges.Range32.{Range32}
use Rattle.sdt_fault.specs.declared.refusal.Refusal.{Refusal}
use Rattle.place_model.specs.declared.scatter.Kind.{Kind}
use Rattle.place_model.specs.declared.scatter.Kind.TheVariants as kind
use Rattle.place_model.specs.declared.scatter.ScatterLoad.{ScatterLoad}
use Rattle.place_model.specs.declared.scatter.ScatterRegion.{ScatterRegion}
use Rattle.place_model.specs.Assignment.{description, described_regions, plain_regions, plain_load}
use Rattle.place_model.specs.Plans.{Contents, origin_of, Planned, length_of, execution_size, end_of, planned, planned_from, PlannedLoad, load_size, loads_from, Plan, plan_for, regions_of, suffices, first_from, table_words, plan_of}
use Rattle.place_model.specs.Faults as model
use Rattle.link_place.specs.declared.layouts.RegionLayout.{RegionLayout}
use Rattle.link_place.specs.declared.layouts.Layout.{Layout}
use Rattle.link_place.specs.declared.layouts.Load.{Load}
use Rattle.link_model.specs.declared.placing.Placement.{Placement}
use Rattle.link_place.specs.declared.parts.Group.{Group}
use Rattle.link_place.specs.declared.parts.Input.{Input}
use Rattle.link_place.specs.declared.parts.Part.{Part}
use Rattle.link_place.specs.Parts.{contents_in, parts_from, parts_of, load_group, groups_of}
use Rattle.link_place.specs.Layouts.{laid_from, loaded, regions_by, loads_by, row_words, passes, layout_for, layout_of, size_of}
use Rattle.link_place.specs.Checks.{judged_laid, judged_by, move_of, move_of_load, overlap_of, conflict_of, too_large_by, aif_too_large_by, rootless}
use Rattle.link_place.specs.Placings.{AreFor, area_at, veneer_at, boot_in}
use Rattle.link_place.specs.Placed.{placed_regions, placement_of, told, placed}
use Rattle.link_place.specs.Judgements.{unwritable_of, refusal_of_layout, most_of, placement_by, IsLeast}
use Rattle.link_place.proofs.PartLemmas.{parts_append, parts_length}
use Rattle.link_place.proofs.PlanLemmas.{laid_of, AreOf, laid_plan, laid_same, regions_same, are_of}
use Rattle.link_place.proofs.PlacedLemmas.{rows_same, map_map, sums_same, rootless_same, conflict_same, execution_same, are_for, unwritable_same, located_same, areas_placed, veneers_placed, boot_placed}

-- ---- the regions of the layout with a table of so many words

pub planned_regions : (k : Kind) (c : Contents) (words : ℕ) → regions_by words (origin_of k) 0 (groups_of k) (parts_of k c) ≡ laid_plan 0 (plan_for k c words)
planned_regions (kind.Scatter s) c words = regions_same (kind.Scatter s) c words 0 0 s.loads
planned_regions (kind.Plain base) c words = regions_same (kind.Plain base) c words 0 0 (plain_load base ∷ [])
planned_regions (kind.Aif base moves) c words = regions_same (kind.Aif base moves) c words 0 0 (plain_load base ∷ [])

pub are_planned : (k : Kind) (c : Contents) (words : ℕ) → AreOf words (origin_of k) 0 (regions_of (plan_for k c words)) (parts_of k c) (laid_plan 0 (plan_for k c words))
are_planned k c words = are_of k c words 0 0 (description k)

-- ---- the least table

passes_same : (k : Kind) (c : Contents) (words : ℕ) → passes (origin_of k) (groups_of k) (parts_of k c) words ≡ suffices k c words
passes_same k c words =
    ap (λ (ls : List RegionLayout). nat_le (sum_by row_words ls + 6) words) (planned_regions k c words)
    ∙ ap (λ (n : ℕ). nat_le (n + 6) words) (rows_same words (origin_of k) 0 _ _ _ (are_planned k c words))

pub words_same : (k : Kind) (c : Contents) → first_from (passes (origin_of k) (groups_of k) (parts_of k c)) 0 (most_of k (parts_of k c)) ≡ table_words k c
words_same (kind.Scatter s) c =
    let k : Kind = kind.Scatter s in
    (λ i. first_from (λ w. passes_same (kind.Scatter s) c w i) 0 (5 * length (parts_of (kind.Scatter s) c) + 6))
    ∙ ap (λ (n : ℕ). first_from (suffices (kind.Scatter s) c) 0 (5 * n + 6)) (parts_length (kind.Scatter s) c 0 (described_regions (kind.Scatter s)))
words_same (kind.Plain base) c = refl
words_same (kind.Aif base moves) c = refl

pub layout_is : (k : Kind) (c : Contents)
    → layout_of (origin_of k) (groups_of k) (parts_of k c) (most_of k (parts_of k c)) ≡ layout_for (origin_of k) (groups_of k) (parts_of k c) (table_words k c)
layout_is k c = ap (layout_for (origin_of k) (groups_of k) (parts_of k c)) (words_same k c)

-- ---- load regions

abbrev pub load_of : PlannedLoad → Load
load_of l = record { name = l.name; base = l.base; size = load_size l; maximum = l.maximum; count = length l.regions }

abbrev pub loads_told : Kind → Plan → List Load
loads_told (kind.Scatter s) p = map load_of p
loads_told (kind.Plain base) p = []
loads_told (kind.Aif base moves) p = []

planned_length : (k : Kind) (c : Contents) (words region : ℕ) (rs : List ScatterRegion) (before load : ℕ) → length (planned_from k c words region rs before load) ≡ length rs
planned_length k c words region [] before load = refl
planned_length k c words region (r ∷ rs) before load =
    ap suc (planned_length k c words (suc region) rs (end_of (planned k c words region r before load)) (load + length_of (planned k c words region r before load)))

sum_map : (n : ℕ) (rs : List Planned) → loaded (map (laid_of n) rs) ≡ sum_by length_of rs
sum_map n [] = refl
sum_map n (r ∷ rs) = omega (arith, sum_map n rs, sum_by-cons (λ (l : RegionLayout). l.region.length) (laid_of n r) (map (laid_of n) rs), sum_by-cons length_of r rs)

loads_same : (k : Kind) (c : Contents) (words n region : ℕ) (loads : List ScatterLoad)
    → loads_by words (origin_of k) n (map load_group loads) (parts_from k c region (flat_map (λ l. l.regions) loads)) ≡ map load_of (loads_from k c words region loads)
loads_same k c words n region [] = refl
loads_same k c words n region (l ∷ loads) =
    let own = parts_from k c region l.regions in
    let others = parts_from k c (region + length l.regions) (flat_map (λ d. d.regions) loads) in
    let all : parts_from k c region (l.regions ++ flat_map (λ d. d.regions) loads) ≡ own ++ others = parts_append k c region l.regions (flat_map (λ d. d.regions) loads) in
    let count = parts_length k c region l.regions in
    let front : take (length l.regions) (parts_from k c region (l.regions ++ flat_map (λ d. d.regions) loads)) ≡ own =
    ap (take (length l.regions)) all ∙ (ap (λ (i : ℕ). take i (own ++ others)) (sym count) ∙ take-append_seam own others) in
    let back : drop (length l.regions) (parts_from k c region (l.regions ++ flat_map (λ d. d.regions) loads)) ≡ others =
    ap (drop (length l.regions)) all ∙ (ap (λ (i : ℕ). drop i (own ++ others)) (sym count) ∙ drop-append_seam own others) in
    let here : loaded (laid_from words (origin_of k) n (take (length l.regions) (parts_from k c region (l.regions ++ flat_map (λ d. d.regions) loads))) l.base l.base) ≡ sum_by length_of (planned_from k c words region l.regions l.base l.base) =
    ap (λ (ps : List Part). loaded (laid_from words (origin_of k) n ps l.base l.base)) front
    ∙ (ap loaded (laid_same k c words n region l.regions l.base l.base) ∙ sum_map n (planned_from k c words region l.regions l.base l.base)) in
    let there = ap (loads_by words (origin_of k) (suc n) (map load_group loads)) back ∙ loads_same k c words (suc n) (region + length l.regions) loads in
    let len = planned_length k c words region l.regions l.base l.base in
    cc

pub planned_loads : (k : Kind) (c : Contents) (words : ℕ) → loads_by words (origin_of k) 0 (groups_of k) (parts_of k c) ≡ loads_told k (plan_for k c words)
planned_loads (kind.Scatter s) c words = loads_same (kind.Scatter s) c words 0 0 s.loads
planned_loads (kind.Plain base) c words = refl
planned_loads (kind.Aif base moves) c words = refl

-- ---- what is told

judged_scatter : (k : Kind) (n : ℕ) (p : Plan) → judged_by (map load_of p) (laid_plan n p) ≡ flat_map (λ l. ((record { name = l.name; base = l.base; size = load_size l; maximum = l.maximum }) ∷ []) ++ map model.judged_region l.regions) p
judged_scatter k n [] = refl
judged_scatter k n (l ∷ p) =
    let own = map (laid_of n) l.regions in
    let count : length own ≡ length l.regions = length-map l.regions (laid_of n) in
    let front : take (length l.regions) (own ++ laid_plan (suc n) p) ≡ own = ap (λ (i : ℕ). take i (own ++ laid_plan (suc n) p)) (sym count) ∙ take-append_seam own (laid_plan (suc n) p) in
    let back : drop (length l.regions) (own ++ laid_plan (suc n) p) ≡ laid_plan (suc n) p = ap (λ (i : ℕ). drop i (own ++ laid_plan (suc n) p)) (sym count) ∙ drop-append_seam own (laid_plan (suc n) p) in
    let each : map judged_laid own ≡ map model.judged_region l.regions = map_map judged_laid (laid_of n) l.regions in
    let rest = judged_scatter k (suc n) p in
    cc

judged_plain : (n : ℕ) (l : PlannedLoad) → judged_by [] (laid_plan n (l ∷ [])) ≡ map model.judged_region l.regions ++ []
judged_plain n l =
    ap (map judged_laid) (append-nil (map (laid_of n) l.regions)) ∙ (map_map judged_laid (laid_of n) l.regions ∙ sym (append-nil (map model.judged_region l.regions)))

abbrev pub plain_planned : Kind → ℕ → Contents → ℕ → PlannedLoad
plain_planned k base c words = record { name = []; maximum = None; base = base; regions = planned_from k c words 0 (plain_regions base) base base }

judged_same : (k : Kind) (c : Contents) (words : ℕ) → judged_by (loads_told k (plan_for k c words)) (laid_plan 0 (plan_for k c words)) ≡ model.judged k (plan_for k c words)
judged_same (kind.Scatter s) c words = judged_scatter (kind.Scatter s) 0 (plan_for (kind.Scatter s) c words)
judged_same (kind.Plain base) c words = judged_plain 0 (plain_planned (kind.Plain base) base c words)
judged_same (kind.Aif base moves) c words = judged_plain 0 (plain_planned (kind.Aif base moves) base c words)

overlap_same : (k : Kind) (c : Contents) (words : ℕ) → overlap_of (loads_told k (plan_for k c words)) (laid_plan 0 (plan_for k c words)) ≡ model.overlap (plan_for k c words)
overlap_same (kind.Scatter s) c words =
    let p = plan_for (kind.Scatter s) c words in
    let loads : map move_of (map move_of_load (map load_of p)) ≡ map (λ l. model.standing (model.load_span l)) p = map_map move_of move_of_load (map load_of p) ∙ map_map (λ d. move_of (move_of_load d)) load_of p in
    let regions = execution_same words 0 0 (regions_of p) (parts_of (kind.Scatter s) c) (laid_plan 0 p) (are_planned (kind.Scatter s) c words) in
    cc
overlap_same (kind.Plain base) c words =
    let p = plan_for (kind.Plain base) c words in
    ap model.first_meeting (execution_same words 0 0 (regions_of p) (parts_of (kind.Plain base) c) (laid_plan 0 p) (are_planned (kind.Plain base) c words))
overlap_same (kind.Aif base moves) c words =
    let p = plan_for (kind.Aif base moves) c words in
    ap model.first_meeting (execution_same words (origin_of (kind.Aif base moves)) 0 (regions_of p) (parts_of (kind.Aif base moves) c) (laid_plan 0 p) (are_planned (kind.Aif base moves) c words))

too_large_same : (k : Kind) (p : Plan) (rest : Option Refusal) → option_or (too_large_by k (model.image_bytes p)) rest ≡ option_or (model.too_large p) (option_or (model.aif_too_large k p) rest)
too_large_same k p rest = go (model.too_large p) (aif_same k)
  where
    aif_same : (j : Kind) → aif_too_large_by j (model.image_bytes p) ≡ model.aif_too_large j p
    aif_same (kind.Scatter s) = refl
    aif_same (kind.Plain base) = refl
    aif_same (kind.Aif base moves) = refl

    go : (o : Option Refusal) → aif_too_large_by k (model.image_bytes p) ≡ model.aif_too_large k p → option_or (option_or o (aif_too_large_by k (model.image_bytes p))) rest ≡ option_or o (option_or (model.aif_too_large k p) rest)
    go None e = ap (λ (o : Option Refusal). option_or o rest) e
    go (Some r) e = refl

abbrev pub planned_layout : Kind → Contents → ℕ → Layout
planned_layout k c words = record { words = words; loads = loads_told k (plan_for k c words); regions = laid_plan 0 (plan_for k c words) }

not_writable_same : (k : Kind) (c : Contents) (words : ℕ) (ram : Option (List Range32)) → unwritable_of ram (origin_of k) (parts_of k c) (planned_layout k c words) ≡ model.not_writable ram (plan_for k c words)
not_writable_same k c words None = refl
not_writable_same k c words (Some ram) = unwritable_same ram words (origin_of k) 0 _ _ _ (are_planned k c words)

refusal_same : (k : Kind) (c : Contents) (words : ℕ) (ram : Option (List Range32))
    → refusal_of_layout k ram (origin_of k) (parts_of k c) (planned_layout k c words) ≡ model.place_refusal k ram (plan_for k c words)
refusal_same k c words ram =
    let p = plan_for k c words in
    let all = are_planned k c words in
    let root : rootless (laid_plan 0 p) ≡ model.rootless (regions_of p) = rootless_same words (origin_of k) 0 _ _ _ all in
    let judged = judged_same k c words in
    let over = overlap_same k c words in
    let conflict : conflict_of (laid_plan 0 p) ≡ model.copy_conflict p = ap model.first_meeting (conflict_same words (origin_of k) 0 _ _ _ all) in
    let size : sum_by size_of (laid_plan 0 p) ≡ model.image_bytes p = sums_same size_of execution_size (λ n r. refl) words (origin_of k) 0 _ _ _ all in
    let ram_same = not_writable_same k c words ram in
    let large = too_large_same k p (model.not_writable ram p) in
    cc

-- ---- the placement

placed_same : (n : ℕ) (p : Plan) → map (λ l. l.region) (laid_plan n p) ≡ placed_regions n p
placed_same n [] = refl
placed_same n (l ∷ p) =
    let split = map-append (λ (x : RegionLayout). x.region) (map (laid_of n) l.regions) (laid_plan (suc n) p) in
    let own = map_map (λ (x : RegionLayout). x.region) (laid_of n) l.regions in
    let rest = placed_same (suc n) p in
    cc

placement_same : (k : Kind) (c : Contents) (words : ℕ) → placement_by (origin_of k) (parts_of k c) (planned_layout k c words) ≡ placement_of (plan_for k c words)
placement_same k c words =
    let p = plan_for k c words in
    let seats = located_same words (origin_of k) 0 _ _ _ (are_planned k c words) in
    let regions = placed_same 0 p in
    let areas = ap (flat_map area_at) seats ∙ areas_placed (regions_of p) in
    let veneers = ap (flat_map veneer_at) seats ∙ veneers_placed (regions_of p) in
    let boot = ap boot_in seats ∙ boot_placed (regions_of p) in
    (λ i. record { regions = regions i; areas = areas i; veneers = veneers i; boot = boot i })

-- ---- for the call

pub layout_planned : (k : Kind) (c : Contents) → layout_of (origin_of k) (groups_of k) (parts_of k c) (most_of k (parts_of k c)) ≡ planned_layout k c (table_words k c)
layout_planned k c =
    let words = table_words k c in
    let loads = planned_loads k c (table_words k c) in
    let regions = planned_regions k c (table_words k c) in
    layout_is k c ∙ (λ i. record { words = table_words k c; loads = loads i; regions = regions i })

pub refusal_is : (k : Kind) (c : Contents) (ram : Option (List Range32)) (o : Layout) → o ≡ layout_of (origin_of k) (groups_of k) (parts_of k c) (most_of k (parts_of k c))
    → refusal_of_layout k ram (origin_of k) (parts_of k c) o ≡ model.place_refusal k ram (plan_of k c)
refusal_is k c ram o same = ap (refusal_of_layout k ram (origin_of k) (parts_of k c)) (same ∙ layout_planned k c) ∙ refusal_same k c (table_words k c) ram

pub placement_is : (k : Kind) (c : Contents) (o : Layout) → o ≡ layout_of (origin_of k) (groups_of k) (parts_of k c) (most_of k (parts_of k c))
    → placement_by (origin_of k) (parts_of k c) o ≡ placement_of (plan_of k c)
placement_is k c o same = ap (placement_by (origin_of k) (parts_of k c)) (same ∙ layout_planned k c) ∙ placement_same k c (table_words k c)

pub own_is : (k : Kind) (c : Contents) (o : Layout) → o ≡ layout_of (origin_of k) (groups_of k) (parts_of k c) (most_of k (parts_of k c))
    → AreFor o.words (origin_of k) (parts_of k c) o.regions
own_is k c o same =
    let IsOwn : Layout → Type 0 = λ x. AreFor x.words (origin_of k) (parts_of k c) x.regions in
    subst IsOwn (sym (same ∙ layout_planned k c)) (are_for (table_words k c) (origin_of k) 0 _ _ _ (are_planned k c (table_words k c)))

counts_in : (loads : List ScatterLoad) → sum_by (λ g. g.count) (map load_group loads) ≡ length (flat_map (λ l. l.regions) loads)
counts_in [] = refl
counts_in (l ∷ loads) =
    omega (arith, counts_in loads, sum_by-cons (λ (g : Group). g.count) (load_group l) (map load_group loads), length-append l.regions (flat_map (λ d. d.regions) loads))

pub counts_same : (k : Kind) (c : Contents) → sum_by (λ g. g.count) (groups_of k) ≡ length (parts_of k c)
counts_same (kind.Scatter s) c = counts_in s.loads ∙ sym (parts_length (kind.Scatter s) c 0 (described_regions (kind.Scatter s)))
counts_same (kind.Plain base) c = refl
counts_same (kind.Aif base moves) c = refl

pub few_groups : (k : Kind) → length (groups_of k) ≡ length (description k)
few_groups (kind.Scatter s) = length-map s.loads load_group
few_groups (kind.Plain base) = refl
few_groups (kind.Aif base moves) = refl

pub first_below : (test : ℕ → Bool) (n more : ℕ) → first_from test n more ≤ n + more
first_below test n zero = omega arith
first_below test n (suc more) = go (test n) (first_below test (suc n) more)
  where
    go : (b : Bool) → first_from test (suc n) more ≤ suc n + more → cond b n (first_from test (suc n) more) ≤ n + suc more
    go true h = omega arith
    go false h = omega (arith, h)

counts_told : (n : ℕ) (p : Plan) → sum_by (λ d. d.count) (map load_of p) ≡ length (laid_plan n p)
counts_told n [] = refl
counts_told n (l ∷ p) =
    omega (arith, counts_told (suc n) p, sum_by-cons (λ (d : Load). d.count) (load_of l) (map load_of p), length-append (map (laid_of n) l.regions) (laid_plan (suc n) p), length-map l.regions (laid_of n))

counts_by : (k : Kind) (p : Plan) → sum_by (λ d. d.count) (loads_told k p) ≤ length (laid_plan 0 p)
counts_by (kind.Scatter s) p = omega (arith, counts_told 0 p)
counts_by (kind.Plain base) p = omega arith
counts_by (kind.Aif base moves) p = omega arith

pub counts_is : (k : Kind) (c : Contents) (o : Layout) → o ≡ layout_of (origin_of k) (groups_of k) (parts_of k c) (most_of k (parts_of k c))
    → sum_by (λ d. d.count) o.loads ≤ length o.regions
counts_is k c o same =
    let HasCounts : Layout → Type 0 = λ x. sum_by (λ d. d.count) x.loads ≤ length x.regions in
    subst HasCounts (sym (same ∙ layout_planned k c)) (counts_by k (plan_for k c (table_words k c)))

pub words_is : (k : Kind) (c : Contents) (o : Layout) → o ≡ layout_of (origin_of k) (groups_of k) (parts_of k c) (most_of k (parts_of k c))
    → o.words ≤ most_of k (parts_of k c)
words_is k c o same =
    let w = ap (λ (x : Layout). x.words) same in
    let below = first_below (passes (origin_of k) (groups_of k) (parts_of k c)) 0 (most_of k (parts_of k c)) in
    omega (arith, w, below)

-- ---- of the input of a call

pub if_more : {A B : Type 0} (r : Result A B) (P Q : A → Type 0) → ((a : A) → P a → Q a) → IfOk r P → IfOk r Q
if_more (Ok a) P Q f h = f a h
if_more (Err e) P Q f h = tt

most_below : (k : Kind) (ps : List Part) → length ps ≤ 64 → most_of k ps ≤ 326
most_below (kind.Scatter s) ps h = omega (arith, h)
most_below (kind.Plain base) ps h = omega arith
most_below (kind.Aif base moves) ps h = omega arith

pub words_low : (input : Input) (o : Layout) (ps : List Part) → ps ≡ parts_of input.kind.now (contents_in input) → length ps ≤ 64 → IsLeast input o → o.words < 2 ^ 30
words_low input o ps same few h =
    let k = input.kind.now in
    let below = words_is input.kind.now (contents_in input) o h.layout in
    let most = most_below input.kind.now (parts_of input.kind.now (contents_in input)) (rw same at few) in
    omega (arith, below, most)

pub own_input : (input : Input) (o : Layout) (ps : List Part) (origin : ℕ) → ps ≡ parts_of input.kind.now (contents_in input) → origin ≡ origin_of input.kind.now → IsLeast input o
    → AreFor o.words origin ps o.regions
own_input input o ps origin same begins h = rw (same, begins) (own_is input.kind.now (contents_in input) o h.layout)

pub counts_input : (input : Input) (o : Layout) → IsLeast input o → sum_by (λ d. d.count) o.loads ≤ length o.regions
counts_input input o h = counts_is input.kind.now (contents_in input) o h.layout

pub is_refused : (input : Input) (ram : Option (List Range32)) (o : Layout) (ps : List Part) (origin : ℕ) (r : Refusal)
    → ps ≡ parts_of input.kind.now (contents_in input) → origin ≡ origin_of input.kind.now → IsLeast input o
    → Some r ≡ refusal_of_layout input.kind.now ram origin ps o → placed input.kind.now ram (contents_in input) ≡ Err r
is_refused input ram o ps origin r same begins h e =
    let k = input.kind.now in
    let c = contents_in input in
    ap (λ (x : Option Refusal). told x (plan_of k c)) (sym (refusal_is k c ram o h.layout) ∙ sym (rw (same, begins) at e))

pub is_placed : (input : Input) (ram : Option (List Range32)) (o : Layout) (ps : List Part) (origin : ℕ) (p : Placement)
    → ps ≡ parts_of input.kind.now (contents_in input) → origin ≡ origin_of input.kind.now → IsLeast input o
    → None ≡ refusal_of_layout input.kind.now ram origin ps o → p ≡ placement_by origin ps o → placed input.kind.now ram (contents_in input) ≡ Ok p
is_placed input ram o ps origin p same begins h e stands =
    let k = input.kind.now in
    let c = contents_in input in
    ap (λ (x : Option Refusal). told x (plan_of k c)) (sym (refusal_is k c ram o h.layout) ∙ sym (rw (same, begins) at e))
    ∙ ap Ok (sym (placement_is k c o h.layout) ∙ sym (rw (same, begins) at stands))
