-- What follows for a placement from it that nothing is refused.
use Rattle.std.proofs.Common.{◌≡◌, ℕ, zero, suc, ◌+◌, ◌*◌, ◌^◌, ◌≤◌, Bool, true, false, not, cond, if◌then◌else◌, ◌==◌, List, [], ◌∷◌, ◌++◌, length, map, refl, sym, ap, subst, ◌∙◌, arith, append_assoc, Option, Some, None, Result, Ok, Err, nat_lt}
use Rattle.std.specs.Prelude.{slice_get, IfOk, IfSome}
use Rattle.std.specs.List.{filter, flat_map, AllByRecursion}
use Rattle.std.specs.Option.{option_map, option_or}
use Rattle.std.proofs.lemmas.Bool.Decides.{Decides-eqb}
use Rattle.base_lemmas.proofs.BaseLemmas.{all_append, all_back, all_weaker}
use Rattle.boot_code.specs.Words.{boot_list}
use Rattle.chunk_file.specs.Reading.{Gives}
use Rattle.sdt_word.specs.declared.ranges.Range32.{Range32}
use Rattle.sdt_fault.specs.declared.answer.Fault.{Fault}
use Rattle.sdt_fault.specs.declared.kinds.Quantity.TheVariants.{ImageBytes}
use Rattle.sdt_fault.specs.declared.refusal.Refusal.{Refusal}
use Rattle.sdt_fault.specs.declared.refusal.Refusal.TheVariants.{NoRoot, TooLarge}
use Rattle.link_model.specs.declared.placing.Placement.{Placement}
use Rattle.link_model.specs.declared.placing.Region.{Region}
use Rattle.place_model.specs.declared.scatter.Kind.{Kind}
use Rattle.place_model.specs.declared.scatter.Kind.TheVariants as kind
use Rattle.place_model.specs.declared.scatter.Scatter.{Scatter}
use Rattle.place_model.specs.declared.scatter.ScatterLoad.{ScatterLoad}
use Rattle.place_model.specs.declared.scatter.ScatterRegion.{ScatterRegion}
use Rattle.place_model.specs.Items.{Item, is_zero_initialised}
use Rattle.place_model.specs.Things.{Thing, AnArea, AVeneer, Startup, size_of, start_of, extent, Stood, stood}
use Rattle.place_model.specs.Assignment.{plain_load}
use Rattle.place_model.specs.Plans as plans
use Rattle.place_model.specs.Plans.{Contents, RegionVeneer, areas_in, veneers_in, header_in, startup_in, Planned, length_of, zero_base_of, execution_size, end_of, planned, planned_from, loads_from, Plan, regions_of, is_root, copied_regions, table_words, plan_of, stood_in, address_of, is_startup, boot_address}
use Rattle.place_model.specs.Faults.{first_told, rootless, judged, judged_load, judged_region, overfull, Span, shared, standing, load_meeting, execution_span, execution_meeting, overlap, copy_move, source_span, target_span, copy_conflict, image_bytes, too_large, aif_too_large, not_writable, as_overlap, as_conflict, place_refusal}
use Rattle.place_model.specs.Laws.{IsLeastShared, AreWhole, IsWholeRegion}
use Rattle.place_model.proofs.ListLemmas.{Pairs, all_of_map, all_indexed, all_of_flat, all_flat, none_given, all_below_sum, all_both, pairs_map, pairs_indexed, pairs_at}
use Rattle.place_model.proofs.PlanLemmas.{whole_law}
use Rattle.place_model.proofs.SpanLemmas.{lt-false, shared_law, or_none, map_none, meeting_none, in_memory}
use Rattle.link_place.specs.Placed.{placed_region, placed_regions, placement_of, told, placed}
use Rattle.link_place.specs.Promises.{AreApart, source_of, target_of, execution_of, is_copied, RunApart, CopiesKeep, HasRoom, IsWhole, StartsInRoot}

-- ---- what is told of a plan

record IsAccepted (p : Plan) : Type 0 where
  rooted : rootless (regions_of p) ≡ None
  rooms : AllByRecursion (λ r. r.base + execution_size r ≤ 2 ^ 32) (regions_of p)
  small : AllByRecursion (λ r. execution_size r ≤ 2 ^ 26) (regions_of p)
  apart : Pairs (λ r l. shared (execution_span r) (execution_span l) ≡ None) (regions_of p)
  conflicts : Pairs (λ r l. shared (target_span r) (source_span l) ≡ None) (copied_regions p)

accepted : (k : Kind) (ram : Option (List Range32)) (p : Plan) → place_refusal k ram p ≡ None → IsAccepted p
accepted k ram p h =
    let tail5 = option_or (aif_too_large k p) (not_writable ram p) in
    let tail4 = option_or (too_large p) tail5 in
    let tail3 = option_or (option_map as_conflict (copy_conflict p)) tail4 in
    let tail2 = option_or (option_map as_overlap (overlap p)) tail3 in
    let tail1 = option_or (first_told overfull (judged k p)) tail2 in
    let (root, h1) = or_none (rootless (regions_of p)) tail1 h in
    let (full, h2) = or_none (first_told overfull (judged k p)) tail2 h1 in
    let (meets, h3) = or_none (option_map as_overlap (overlap p)) tail3 h2 in
    let (conflict, h4) = or_none (option_map as_conflict (copy_conflict p)) tail4 h3 in
    let (large, h5) = or_none (too_large p) tail5 h4 in
    let of_regions = (or_none (load_meeting p) (execution_meeting p) (map_none as_overlap (overlap p) meets)).1 in
    let fine = all_of_flat (λ j. overfull j ≡ None) (λ l. judged_load k l ++ map judged_region l.regions) p (none_given overfull (judged k p) full) in
    record {
      rooted = root;
      rooms =
          all_flat (λ r. r.base + execution_size r ≤ 2 ^ 32) (λ l. l.regions) p
          (all_weaker (λ l. AllByRecursion (λ j. overfull j ≡ None) (judged_load k l ++ map judged_region l.regions)) (λ l. AllByRecursion (λ r. r.base + execution_size r ≤ 2 ^ 32) l.regions)
          (λ l all. all_weaker (λ r. overfull (judged_region r) ≡ None) (λ r. r.base + execution_size r ≤ 2 ^ 32) (λ r none. in_memory (judged_region r) none) l.regions
          (all_of_map (λ j. overfull j ≡ None) judged_region l.regions (all_back (λ j. overfull j ≡ None) (judged_load k l) (map judged_region l.regions) all))) p fine);
      small = all_below_sum execution_size (regions_of p) (2 ^ 26) (go (nat_lt (2 ^ 26) (image_bytes p)) refl large);
      apart = pairs_map (λ m n. shared m.written n.read ≡ None) (λ r. standing (execution_span r)) (regions_of p) (meeting_none (map (λ r. standing (execution_span r)) (regions_of p)) of_regions);
      conflicts = pairs_map (λ m n. shared m.written n.read ≡ None) copy_move (copied_regions p) (meeting_none (map copy_move (copied_regions p)) (map_none as_conflict (copy_conflict p) conflict));
    }
  where
    go : (b : Bool) → nat_lt (2 ^ 26) (image_bytes p) ≡ b → (if b then Some (TooLarge ImageBytes (2 ^ 26)) else None) ≡ None → image_bytes p ≤ 2 ^ 26
    go true e n = absurd cc
    go false e n = lt-false (2 ^ 26) (image_bytes p) e

-- ---- from the regions of a plan to those of its placement

all_from : (P : Region → Type 0) (n : ℕ) (qs others : List Planned) (rest : List Region) → (AllByRecursion (λ q. (m : ℕ) → P (placed_region m q)) others → AllByRecursion P rest)
    → AllByRecursion (λ q. (m : ℕ) → P (placed_region m q)) (qs ++ others) → AllByRecursion P (map (placed_region n) qs ++ rest)
all_from P n [] others rest f h = f h
all_from P n (q ∷ qs) others rest f h = (h.0 n, all_from P n qs others rest f h.1)

all_placed : (P : Region → Type 0) (n : ℕ) (p : Plan) → AllByRecursion (λ q. (m : ℕ) → P (placed_region m q)) (regions_of p) → AllByRecursion P (placed_regions n p)
all_placed P n [] h = tt
all_placed P n (l ∷ loads) h = all_from P n l.regions (regions_of loads) (placed_regions (suc n) loads) (all_placed P (suc n) loads) h

module _ (R : Region → Region → Type 0) where
  abbrev Placing : Planned → Planned → Type 0
  Placing q s = (m n : ℕ) → R (placed_region m q) (placed_region n s)

  pairs_from : (n : ℕ) (qs : List Planned) (loads : Plan) → (Pairs Placing (regions_of loads) → Pairs R (placed_regions (suc n) loads))
      → Pairs Placing (qs ++ regions_of loads) → Pairs R (map (placed_region n) qs ++ placed_regions (suc n) loads)
  pairs_from n [] loads f h = f h
  pairs_from n (q ∷ qs) loads f h = (
    all_from (R (placed_region n q)) n qs (regions_of loads) (placed_regions (suc n) loads) (all_placed (R (placed_region n q)) (suc n) loads)
        (all_weaker (Placing q) (λ s. (m : ℕ) → R (placed_region n q) (placed_region m s)) (λ s g. g n) (qs ++ regions_of loads) h.0),
    pairs_from n qs loads f h.1,
  )

  pairs_placed : (n : ℕ) (p : Plan) → Pairs Placing (regions_of p) → Pairs R (placed_regions n p)
  pairs_placed n [] h = tt
  pairs_placed n (l ∷ loads) h = pairs_from n l.regions loads (pairs_placed (suc n) loads) h

pairs_weaker : {X : Type 0} (R S : X → X → Type 0) → ((x y : X) → R x y → S x y) → (xs : List X) → Pairs R xs → Pairs S xs
pairs_weaker R S f xs h = pairs_indexed S xs (λ i j x y lt one other. f x y (pairs_at R xs i j x y h lt one other))

all_of_filter : {X : Type 0} (P : X → Type 0) (test : X → Bool) (xs : List X) → AllByRecursion P (filter test xs) → AllByRecursion (λ x. test x ≡ true → P x) xs
all_of_filter P test [] h = tt
all_of_filter {X} P test (x ∷ xs) h = go (test x) refl (all_of_filter P test xs) h
  where
    go : (b : Bool) → test x ≡ b → (AllByRecursion P (filter test xs) → AllByRecursion (λ y. test y ≡ true → P y) xs) → AllByRecursion P (cond b (x ∷ filter test xs) (filter test xs))
        → (test x ≡ true → P x) × AllByRecursion (λ y. test y ≡ true → P y) xs
    go true e rest all = ((λ t. all.0), rest all.1)
    go false e rest all = ((λ t. absurd cc), rest all)

pairs_of_filter : {X : Type 0} (R : X → X → Type 0) (test : X → Bool) (xs : List X) → Pairs R (filter test xs) → Pairs (λ x y. test x ≡ true → test y ≡ true → R x y) xs
pairs_of_filter R test [] h = tt
pairs_of_filter {X} R test (x ∷ xs) h = go (test x) refl (pairs_of_filter R test xs) h
  where
    go : (b : Bool) → test x ≡ b → (Pairs R (filter test xs) → Pairs (λ y z. test y ≡ true → test z ≡ true → R y z) xs) → Pairs R (cond b (x ∷ filter test xs) (filter test xs))
        → AllByRecursion (λ y. test x ≡ true → test y ≡ true → R x y) xs × Pairs (λ y z. test y ≡ true → test z ≡ true → R y z) xs
    go true e rest all = (
      all_weaker (λ y. test y ≡ true → R x y) (λ y. test x ≡ true → test y ≡ true → R x y) (λ y f t. f) xs (all_of_filter (R x) test xs all.0),
      rest all.1,
    )
    go false e rest all = (
      all_indexed (λ y. test x ≡ true → test y ≡ true → R x y) xs (λ i y at t. absurd cc),
      rest all,
    )

-- ---- no two regions run at one address, and no copy writes what a later one reads

none_shared : (s t : Span) → shared s t ≡ None → AreApart s t
none_shared s t e = subst (IsLeastShared s t) e (shared_law s t)

run_apart : (p : Plan) → IsAccepted p → RunApart (placed_regions 0 p)
run_apart p a i j r s lt one other =
    pairs_at (λ q t. AreApart (execution_of q) (execution_of t)) (placed_regions 0 p) i j r s
    (pairs_placed (λ q t. AreApart (execution_of q) (execution_of t)) 0 p
    (pairs_weaker (λ q t. shared (execution_span q) (execution_span t) ≡ None) (λ q t. (m n : ℕ) → AreApart (execution_of (placed_region m q)) (execution_of (placed_region n t)))
    (λ q t none m n. none_shared (execution_span q) (execution_span t) none) (regions_of p) a.apart)) lt one other

copies_keep : (p : Plan) → IsAccepted p → CopiesKeep (placed_regions 0 p)
copies_keep p a i j r s lt one other =
    pairs_at (λ q t. is_copied q ≡ true → is_copied t ≡ true → AreApart (target_of q) (source_of t)) (placed_regions 0 p) i j r s
    (pairs_placed (λ q t. is_copied q ≡ true → is_copied t ≡ true → AreApart (target_of q) (source_of t)) 0 p
    (pairs_weaker (λ q t. plans.is_copied q ≡ true → plans.is_copied t ≡ true → shared (target_span q) (source_span t) ≡ None)
    (λ q t. (m n : ℕ) → is_copied (placed_region m q) ≡ true → is_copied (placed_region n t) ≡ true → AreApart (target_of (placed_region m q)) (source_of (placed_region n t)))
    (λ q t none m n first second. none_shared (target_span q) (source_span t) (none first second)) (regions_of p)
    (pairs_of_filter (λ q t. shared (target_span q) (source_span t) ≡ None) plans.is_copied (regions_of p) a.conflicts))) lt one other

-- ---- room, and whole words

have_room : (p : Plan) → IsAccepted p → AllByRecursion HasRoom (placed_regions 0 p)
have_room p a =
    all_placed HasRoom 0 p
    (all_weaker (λ r. (r.base + execution_size r ≤ 2 ^ 32) × (execution_size r ≤ 2 ^ 26)) (λ q. (m : ℕ) → HasRoom (placed_region m q)) (λ q both m. record { end = both.0; size = both.1 }) (regions_of p)
    (all_both (λ r. r.base + execution_size r ≤ 2 ^ 32) (λ r. execution_size r ≤ 2 ^ 26) (regions_of p) a.rooms a.small))

are_whole : (k : Kind) (c : Contents) → AreWhole k c → AllByRecursion IsWhole (placed_regions 0 (plan_of k c))
are_whole k c h =
    all_placed IsWhole 0 (plan_of k c)
    (all_weaker IsWholeRegion (λ q. (m : ℕ) → IsWhole (placed_region m q)) (λ q w m. record { load = w.load; base = w.base; length = w.loaded; zero = w.cleared }) (regions_of (plan_of k c))
    (whole_law k c (table_words k c) h))

-- ---- the startup code is in the first region

abbrev IsQuiet : Thing → Type 0
IsQuiet t = is_startup t ≡ false

abbrev AreQuiet : List Thing → Type 0
AreQuiet ts = AllByRecursion IsQuiet ts

quiet_areas : (items : List Item) → AreQuiet (map AnArea items)
quiet_areas [] = tt
quiet_areas (i ∷ items) = (refl, quiet_areas items)

quiet_veneers : (vs : List RegionVeneer) → AreQuiet (map (λ v. AVeneer v.target v.thumb) vs)
quiet_veneers [] = tt
quiet_veneers (v ∷ vs) = (refl, quiet_veneers vs)

-- at an address, with so many words of its table, it is among bytes from one address up to another
abbrev LiesIn : ℕ → ℕ → ℕ → ℕ → Type 0
LiesIn words a from to = (from ≤ a) × (a + 4 * (length boot_list + words) ≤ to)

startup_at : (origin at : ℕ) (xs : List Thing) (words : ℕ) (more : List Stood) (a : ℕ) → AreQuiet xs → address_of is_startup (stood origin at (xs ++ Startup words ∷ []) ++ more) ≡ Some a
    → LiesIn words a at (at + extent origin at (xs ++ Startup words ∷ []))
startup_at origin at [] words more a quiet e = let is : start_of origin at (Startup words) ≡ a = cc in (omega (arith, is), omega (arith, is))
startup_at origin at (x ∷ xs) words more a quiet e =
    let next : ℕ = start_of origin at x + size_of x in
    let step : address_of is_startup (stood origin at (x ∷ (xs ++ Startup words ∷ [])) ++ more) ≡ address_of is_startup (stood origin next (xs ++ Startup words ∷ []) ++ more) = rw (quiet.0) refl in
    let (low, high) = startup_at origin next xs words more a quiet.1 (sym step ∙ e) in
    (omega (arith, low), omega (arith, high))

startup_behind : (origin at : ℕ) (xs ys : List Thing) (words : ℕ) (zs more : List Stood) (a : ℕ) → AreQuiet xs → AreQuiet ys
    → address_of is_startup ((stood origin at (xs ++ (ys ++ Startup words ∷ [])) ++ zs) ++ more) ≡ Some a → LiesIn words a at (at + extent origin at (xs ++ (ys ++ Startup words ∷ [])))
startup_behind origin at xs ys words zs more a first second =
    subst (λ (ts : List Thing). address_of is_startup ((stood origin at ts ++ zs) ++ more) ≡ Some a → LiesIn words a at (at + extent origin at ts)) (append_assoc xs ys (Startup words ∷ []))
    (λ e. startup_at origin at (xs ++ ys) words (zs ++ more) a (all_append IsQuiet xs ys first second)
    (ap (address_of is_startup) (sym (append_assoc (stood origin at ((xs ++ ys) ++ Startup words ∷ [])) zs more)) ∙ e))

record IsInFirst (words a : ℕ) (qs : List Planned) : Type 0 where
  region : Planned
  rest : List Planned
  whole : qs ≡ region ∷ rest
  lies : LiesIn words a region.base (region.base + length_of region)

in_first : (s : Scatter) (c : Contents) (words a : ℕ) (ls : List ScatterLoad) → address_of is_startup (flat_map stood_in (regions_of (loads_from (kind.Scatter s) c words 0 ls))) ≡ Some a
    → IsInFirst words a (regions_of (loads_from (kind.Scatter s) c words 0 ls))
in_first s c words a [] e = absurd cc
in_first s c words a (l ∷ ls) e = go l.regions (in_first s c words a ls) e
  where
    go : (regions : List ScatterRegion)
        → (address_of is_startup (flat_map stood_in (regions_of (loads_from (kind.Scatter s) c words 0 ls))) ≡ Some a → IsInFirst words a (regions_of (loads_from (kind.Scatter s) c words 0 ls)))
        → address_of is_startup (flat_map stood_in (planned_from (kind.Scatter s) c words 0 regions l.base l.base ++ regions_of (loads_from (kind.Scatter s) c words (0 + length regions) ls))) ≡ Some a
        → IsInFirst words a (planned_from (kind.Scatter s) c words 0 regions l.base l.base ++ regions_of (loads_from (kind.Scatter s) c words (0 + length regions) ls))
    go [] later f = later f
    go (r ∷ regions) later f =
        let q : Planned = planned (kind.Scatter s) c words 0 r l.base l.base in
        let rest : List Planned = planned_from (kind.Scatter s) c words 1 regions (end_of q) (l.base + length_of q) ++ regions_of (loads_from (kind.Scatter s) c words (0 + length (r ∷ regions)) ls) in
        record {
          region = q;
          rest = rest;
          whole = refl;
          lies =
              startup_behind q.origin q.base (map AnArea (filter (λ i. not (is_zero_initialised i)) (areas_in c 0))) (veneers_in c 0) words (stood q.origin (zero_base_of q) q.zeros) (flat_map stood_in rest) a
              (quiet_areas (filter (λ i. not (is_zero_initialised i)) (areas_in c 0))) (quiet_veneers (filter (λ v. v.region == 0) c.veneers)) f;
        }

-- ---- no other image has one

unmet : (origin at : ℕ) (ts : List Thing) (more : List Stood) → AreQuiet ts → address_of is_startup (stood origin at ts ++ more) ≡ address_of is_startup more
unmet origin at [] more quiet = refl
unmet origin at (t ∷ ts) more quiet = rw (quiet.0) (unmet origin (start_of origin at t + size_of t) ts more quiet.1)

record IsQuietRegion (q : Planned) : Type 0 where
  things : AreQuiet q.things
  zeros : AreQuiet q.zeros

unmet_all : (qs : List Planned) → AllByRecursion IsQuietRegion qs → address_of is_startup (flat_map stood_in qs) ≡ None
unmet_all [] quiet = refl
unmet_all (q ∷ qs) quiet =
    ap (address_of is_startup) (append_assoc (stood q.origin q.base q.things) (stood q.origin (zero_base_of q) q.zeros) (flat_map stood_in qs))
    ∙ unmet q.origin q.base q.things (stood q.origin (zero_base_of q) q.zeros ++ flat_map stood_in qs) quiet.0.things
    ∙ unmet q.origin (zero_base_of q) q.zeros (flat_map stood_in qs) quiet.0.zeros ∙ unmet_all qs quiet.1

module _ (k : Kind) (c : Contents) (words : ℕ) (before : (n : ℕ) → AreQuiet (header_in k n)) (behind : (n : ℕ) → AreQuiet (startup_in k n words)) where
  quiet_regions : (n : ℕ) (rs : List ScatterRegion) (at load : ℕ) → AllByRecursion IsQuietRegion (planned_from k c words n rs at load)
  quiet_regions n [] at load = tt
  quiet_regions n (r ∷ rs) at load =
      let q : Planned = planned k c words n r at load in
      let areas : List Thing = map AnArea (filter (λ i. not (is_zero_initialised i)) (areas_in c n)) in (
        record {
          things =
              all_append IsQuiet (header_in k n) (areas ++ (veneers_in c n ++ startup_in k n words)) (before n)
              (all_append IsQuiet areas (veneers_in c n ++ startup_in k n words) (quiet_areas (filter (λ i. not (is_zero_initialised i)) (areas_in c n)))
              (all_append IsQuiet (veneers_in c n) (startup_in k n words) (quiet_veneers (filter (λ v. v.region == n) c.veneers)) (behind n)));
          zeros = quiet_areas (filter is_zero_initialised (areas_in c n));
        },
        quiet_regions (suc n) rs (end_of q) (load + length_of q),
      )

  unmet_plan : (n : ℕ) (ls : List ScatterLoad) → AllByRecursion IsQuietRegion (regions_of (loads_from k c words n ls))
  unmet_plan n [] = tt
  unmet_plan n (l ∷ ls) =
      all_append IsQuietRegion (planned_from k c words n l.regions l.base l.base) (regions_of (loads_from k c words (n + length l.regions) ls)) (quiet_regions n l.regions l.base l.base) (unmet_plan (n + length l.regions) ls)

-- ---- it runs where it is loaded

root_first : (r : Planned) (rest : List Planned) → rootless (r ∷ rest) ≡ None → is_root r ≡ true
root_first r rest h = go (is_root r) h
  where
    go : (b : Bool) → (if b then None else Some (NoRoot r.name)) ≡ None → b ≡ true
    go true n = refl
    go false n = absurd cc

-- the first region of a plan is the first of its placement
first_placed : (n : ℕ) (p : Plan) (q : Planned) (rest : List Planned) → regions_of p ≡ q ∷ rest → (m : ℕ) × (slice_get (placed_regions n p) 0 ≡ Some (placed_region m q))
first_placed n [] q rest e = absurd cc
first_placed n (l ∷ loads) q rest e = go l.regions (first_placed (suc n) loads q rest) e
  where
    go : (qs : List Planned) → (regions_of loads ≡ q ∷ rest → (m : ℕ) × (slice_get (placed_regions (suc n) loads) 0 ≡ Some (placed_region m q))) → qs ++ regions_of loads ≡ q ∷ rest → (m : ℕ) × (slice_get (map (placed_region n) qs ++ placed_regions (suc n) loads) 0 ≡ Some (placed_region m q))
    go [] later f = later f
    go (r ∷ qs) later f = let same : r ≡ q = cc in (n, ap (λ (s : Planned). Some (placed_region n s)) same)

starts_in : (words a : ℕ) (p : Plan) → IsAccepted p → IsInFirst words a (regions_of p) → StartsInRoot words (placement_of p) a
starts_in words a p accept i =
    let q = i.region in
    let root : is_root q ≡ true = root_first q i.rest (sym (ap rootless i.whole) ∙ accept.rooted) in
    let (m, first) = first_placed 0 p q i.rest i.whole in
    record { region = placed_region m q; first = first; root = (Decides-eqb q.load q.base).0 root; begins = i.lies.0; ends = i.lies.1 }

starts : (k : Kind) (c : Contents) → IsAccepted (plan_of k c) → (a : ℕ) → boot_address (plan_of k c) ≡ Some a → StartsInRoot (table_words k c) (placement_of (plan_of k c)) a
starts (kind.Scatter s) c accept a e = starts_in (table_words (kind.Scatter s) c) a (plan_of (kind.Scatter s) c) accept (in_first s c (table_words (kind.Scatter s) c) a s.loads e)
starts (kind.Plain base) c accept a e =
    let none = unmet_all (regions_of (plan_of (kind.Plain base) c)) (unmet_plan (kind.Plain base) c 0 (λ n. tt) (λ n. tt) 0 (plain_load base ∷ [])) in
    absurd cc
starts (kind.Aif base moves) c accept a e =
    let none = unmet_all (regions_of (plan_of (kind.Aif base moves) c)) (unmet_plan (kind.Aif base moves) c 0 (quiet_header base moves) (λ n. tt) 0 (plain_load base ∷ [])) in
    absurd cc
  where
    quiet_header : (base : ℕ) (moves : Bool) (n : ℕ) → AreQuiet (header_in (kind.Aif base moves) n)
    quiet_header base moves zero = (refl, tt)
    quiet_header base moves (suc n) = tt

-- ---- of what is given

told_ok : (o : Option Refusal) (p : Plan) (q : Placement) → told o p ≡ Ok q → (o ≡ None) × (placement_of p ≡ q)
told_ok None p q e = (refl, cc)
told_ok (Some r) p q e = absurd cc

module _ (k : Kind) (ram : Option (List Range32)) (c : Contents) where
  given_holds : (P : Placement → Type 0) → (IsAccepted (plan_of k c) → P (placement_of (plan_of k c))) → (r : Result Placement Fault) → Gives r (placed k ram c) → IfOk r P
  given_holds P holds (Ok p) h =
      let (none, is) = told_ok (place_refusal k ram (plan_of k c)) (plan_of k c) p h in
      subst P is (holds (accepted k ram (plan_of k c) none))
  given_holds P holds (Err f) h = tt

  pub apart_given : (r : Result Placement Fault) → Gives r (placed k ram c) → IfOk r (λ p. RunApart p.regions)
  apart_given r h = given_holds (λ p. RunApart p.regions) (λ a. run_apart (plan_of k c) a) r h

  pub copies_given : (r : Result Placement Fault) → Gives r (placed k ram c) → IfOk r (λ p. CopiesKeep p.regions)
  copies_given r h = given_holds (λ p. CopiesKeep p.regions) (λ a. copies_keep (plan_of k c) a) r h

  pub room_given : (r : Result Placement Fault) → Gives r (placed k ram c) → IfOk r (λ p. AllByRecursion HasRoom p.regions)
  room_given r h = given_holds (λ p. AllByRecursion HasRoom p.regions) (λ a. have_room (plan_of k c) a) r h

  pub start_given : (r : Result Placement Fault) → Gives r (placed k ram c) → IfOk r (λ p. IfSome p.boot (StartsInRoot (table_words k c) p))
  start_given r h = given_holds (λ p. IfSome p.boot (StartsInRoot (table_words k c) p)) (λ a. go a (boot_address (plan_of k c)) refl) r h
    where
      go : IsAccepted (plan_of k c) → (boot : Option ℕ) → boot_address (plan_of k c) ≡ boot → IfSome boot (StartsInRoot (table_words k c) (placement_of (plan_of k c)))
      go a None e = tt
      go a (Some address) e = starts k c a address e

  pub whole_given : (r : Result Placement Fault) → Gives r (placed k ram c) → AreWhole k c → IfOk r (λ p. AllByRecursion IsWhole p.regions)
  whole_given r h whole = given_holds (λ p. AllByRecursion IsWhole p.regions) (λ a. are_whole k c whole) r h
