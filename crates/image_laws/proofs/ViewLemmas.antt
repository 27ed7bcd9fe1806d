-- The view that a plan has, where its execution ranges don't meet: what it shows, and that it is the only one.
use Rattle.std.proofs.Common.{◌≡◌, ℕ, ◌+◌, ◌-◌, ◌<◌, ◌≤◌, ◌⊎◌, inl, inr, Bool, true, false, ◌||◌, List, [], ◌∷◌, ◌++◌, length, map, refl, sym, ap, subst, ◌∙◌, arith, Option, Some, None}
use Rattle.std.specs.Prelude.{slice_get, slice_index, is_some}
use Rattle.std.specs.List.{flat_map, list_any, AllByRecursion}
use Rattle.std.proofs.lemmas.Bool.{cases_lt}
use Rattle.base_lemmas.proofs.BaseLemmas.{neither}
use Rattle.boot_code.specs.Boots.{ByteMap, covers}
use Rattle.boot_code.specs.Startup.{zeros}
use Rattle.boot_code.proofs.ViewLemmas.{length-zeros, get_or-zeros, covers-true, covers-false, covers-inside, covers-off}
use Rattle.boot_code.specs.Maps.{Segment, has, map_of, Holds}
use Rattle.boot_code.proofs.MapLemmas.{domain, shown, front, back}
use Rattle.place_model.specs.Things.{Thing, alignment_of, size_of, gap, start_of, extent, stood}
use Rattle.place_model.specs.Plans.{Planned, length_of, zero_base_of, zero_length_of, execution_size, end_of, Plan, regions_of}
use Rattle.place_model.specs.Faults.{shared, standing, execution_span, execution_meeting}
use Rattle.place_model.proofs.ListLemmas.{all_at, all_indexed, any_found, Pairs, pairs_map}
use Rattle.place_model.specs.Laws.{IsLeastShared}
use Rattle.place_model.proofs.SpanLemmas.{shared_law, meeting_none}
use Rattle.image_model.specs.Regions.{Filling, laid, region_bytes, AreSized}
use Rattle.image_model.specs.Views.{is_executed, IsView, region_segments, view_of}
use Rattle.image_laws.specs.Laws.{takes_up}
use Rattle.image_laws.proofs.RegionLemmas.{Sizes, length-laid}

-- ---- one region's segments

covers-join : (b n z x : ℕ) → covers b (n + z) x ≡ (covers b n x || covers (b + n) z x)
covers-join b n z x = go (covers b n x) (covers (b + n) z x) refl refl
  where
    go : (c d : Bool) → covers b n x ≡ c → covers (b + n) z x ≡ d → covers b (n + z) x ≡ (c || d)
    go true d e f = let inside = covers-true b n x e in covers-inside b (n + z) x inside.0 (omega (arith, inside.1))
    go false true e f = let inside = covers-true (b + n) z x f in covers-inside b (n + z) x (omega (arith, inside.0)) (omega (arith, inside.1))
    go false false e f = covers-off b (n + z) x (outside (covers-false b n x e) (covers-false (b + n) z x f))
      where
        outside : (x < b) ⊎ (b + n ≤ x) → (x < b + n) ⊎ (b + n + z ≤ x) → (x < b) ⊎ (b + (n + z) ≤ x)
        outside (inl h) k = inl h
        outside (inr h) (inl k) = absurd (omega arith)
        outside (inr h) (inr k) = inr (omega arith)

pub not_in : (b n x : ℕ) → (b ≤ x → x < b + n → ⊥) → covers b n x ≡ false
not_in b n x h = go (covers b n x) refl
  where
    go : (c : Bool) → covers b n x ≡ c → covers b n x ≡ false
    go true e = let inside = covers-true b n x e in absurd (h inside.0 inside.1)
    go false e = e

pub bytes_size : (held : Filling) (r : Planned) → Sizes (held r) r.things → length (region_bytes held r) ≡ length_of r
bytes_size held r size = length-laid (held r) r.origin r.base r.things size

-- ---- which addresses have a byte

or_step : (a b c d e : Bool) → (a || b) ≡ d → c ≡ e → (a || (b || c)) ≡ (d || e)
or_step true b c d e h k = ap (λ (q : Bool). q || e) h
or_step false b c d e h k = ap (λ (q : Bool). q || c) h ∙ ap (λ (q : Bool). d || q) k

abbrev pub Sound : Filling → List Planned → Type 0
Sound held rs = AllByRecursion (λ r. AllByRecursion (λ t. length (held r t) ≡ size_of t) r.things) rs

executed : (held : Filling) (rs : List Planned) (x : ℕ) → Sound held rs → list_any (has x) (flat_map (region_segments held) rs) ≡ list_any (is_executed x) rs
executed held [] x sizes = refl
executed held (r ∷ rs) x sizes =
    let size = bytes_size held r sizes.0 in
    let first =
    ap (λ (n : ℕ). covers r.base n x || covers (zero_base_of r) (length (zeros (zero_length_of r))) x) size
    ∙ ap (λ (n : ℕ). covers r.base (length_of r) x || covers (zero_base_of r) n x) (length-zeros (zero_length_of r))
    ∙ sym (covers-join r.base (length_of r) (zero_length_of r) x) in
    or_step (covers r.base (length (region_bytes held r)) x) (covers (zero_base_of r) (length (zeros (zero_length_of r))) x) (list_any (has x) (flat_map (region_segments held) rs)) (is_executed x r) (list_any (is_executed x) rs)
    first (executed held rs x sizes.1)

-- ---- what is shown

pub past : (m : Segment) (ss : List Segment) (a : ℕ) (bytes : List ℕ) → ((k : ℕ) → k < length bytes → has (a + k) m ≡ false) → Holds (map_of ss) a bytes → Holds (map_of (m ∷ ss)) a bytes
past m ss a bytes off h k lt = rw (off k lt) (h k lt)

-- an address of one region is none of another's, where they don't meet
off_region : (r q : Planned) → shared (execution_span r) (execution_span q) ≡ None → (x : ℕ) → q.base ≤ x → x < end_of q → (r.base ≤ x → x < end_of r → ⊥)
off_region r q none x low high from to =
    (subst (IsLeastShared (execution_span r) (execution_span q)) none (shared_law (execution_span r) (execution_span q))) x (record { from_base = from; below_end = to }) (record { from_base = low; below_end = high })

abbrev pub IsShown : Filling → ByteMap → Planned → Type 0
IsShown held m r = Holds m r.base (region_bytes held r) × Holds m (zero_base_of r) (zeros (zero_length_of r))

passed : (held : Filling) (r : Planned) (ss : List Segment) (rs : List Planned) → Sizes (held r) r.things → Sound held rs → AllByRecursion (λ q. shared (execution_span r) (execution_span q) ≡ None) rs
    → AllByRecursion (IsShown held (map_of ss)) rs
    → AllByRecursion (IsShown held (map_of ((record { base = r.base; bytes = region_bytes held r }) ∷ (record { base = zero_base_of r; bytes = zeros (zero_length_of r) }) ∷ ss))) rs
passed held r ss [] size sizes off all = tt
passed held r ss (q ∷ rs) size sizes off all =
    let own = bytes_size held r size in
    let other = bytes_size held q sizes.0 in
    let zero_own = length-zeros (zero_length_of r) in
    let zero_other = length-zeros (zero_length_of q) in
    let one : Segment = record { base = r.base; bytes = region_bytes held r } in
    let two : Segment = record { base = zero_base_of r; bytes = zeros (zero_length_of r) } in
    let off_one = λ (x : ℕ) (low : q.base ≤ x) (high : x < end_of q). not_in r.base (length (region_bytes held r)) x (λ from to. off_region r q off.0 x low high from (omega (arith, to, own))) in
    let off_two = λ (x : ℕ) (low : q.base ≤ x) (high : x < end_of q). not_in (zero_base_of r) (length (zeros (zero_length_of r))) x (λ from to. off_region r q off.0 x low high (omega (arith, from)) (omega (arith, to, zero_own))) in (
      (
        past one (two ∷ ss) q.base (region_bytes held q) (λ k lt. off_one (q.base + k) (omega arith) (omega (arith, lt, other)))
            (past two ss q.base (region_bytes held q) (λ k lt. off_two (q.base + k) (omega arith) (omega (arith, lt, other))) all.0.0),
        past one (two ∷ ss) (zero_base_of q) (zeros (zero_length_of q)) (λ k lt. off_one (zero_base_of q + k) (omega arith) (omega (arith, lt, zero_other)))
            (past two ss (zero_base_of q) (zeros (zero_length_of q)) (λ k lt. off_two (zero_base_of q + k) (omega arith) (omega (arith, lt, zero_other))) all.0.1),
      ),
      passed held r ss rs size sizes.1 off.1 all.1,
    )

shown_all : (held : Filling) (rs : List Planned) → Sound held rs → Pairs (λ r q. shared (execution_span r) (execution_span q) ≡ None) rs
    → AllByRecursion (IsShown held (map_of (flat_map (region_segments held) rs))) rs
shown_all held [] sizes off = tt
shown_all held (r ∷ rs) sizes off =
    let own = bytes_size held r sizes.0 in
    let one : Segment = record { base = r.base; bytes = region_bytes held r } in
    let two : Segment = record { base = zero_base_of r; bytes = zeros (zero_length_of r) } in
    let after = flat_map (region_segments held) rs in (
      (
        shown [] one (two ∷ after) tt,
        shown (one ∷ []) two after ((λ k lt. not_in r.base (length (region_bytes held r)) (zero_base_of r + k) (λ from to. absurd (omega (arith, own, to)))), tt),
      ),
      passed held r after rs sizes.0 sizes.1 off.0 (shown_all held rs sizes.1 off.1),
    )

all_first : {X : Type 0} (P Q : X → Type 0) (xs : List X) → AllByRecursion (λ x. P x × Q x) xs → AllByRecursion P xs
all_first P Q [] a = tt
all_first P Q (x ∷ xs) a = (a.0.0, all_first P Q xs a.1)

all_second : {X : Type 0} (P Q : X → Type 0) (xs : List X) → AllByRecursion (λ x. P x × Q x) xs → AllByRecursion Q xs
all_second P Q [] a = tt
all_second P Q (x ∷ xs) a = (a.0.1, all_second P Q xs a.1)

pub is_view : (p : Plan) (held : Filling) → execution_meeting p ≡ None → AreSized held p → IsView p held (view_of p held)
is_view p held none sizes =
    let off = pairs_map (λ m n. shared m.written n.read ≡ None) (λ r. standing (execution_span r)) (regions_of p) (meeting_none (map (λ r. standing (execution_span r)) (regions_of p)) none) in
    let all = shown_all held (regions_of p) sizes off in
    record {
      domain = λ x. domain (flat_map (region_segments held) (regions_of p)) x ∙ executed held (regions_of p) x sizes;
      loaded = all_first (λ r. Holds (view_of p held) r.base (region_bytes held r)) (λ r. Holds (view_of p held) (zero_base_of r) (zeros (zero_length_of r))) (regions_of p) all;
      cleared = all_second (λ r. Holds (view_of p held) r.base (region_bytes held r)) (λ r. Holds (view_of p held) (zero_base_of r) (zeros (zero_length_of r))) (regions_of p) all;
    }

-- ---- there is one view

is_none : (o : Option ℕ) → is_some o ≡ false → o ≡ None
is_none None h = refl
is_none (Some b) h = absurd cc

pub held_at : (m : ByteMap) (a : ℕ) (bytes : List ℕ) (x : ℕ) → Holds m a bytes → a ≤ x → x < a + length bytes → m x ≡ Some (slice_index bytes (x - a))
held_at m a bytes x h low high = let here : x ≡ a + (x - a) = omega arith in ap m here ∙ h (x - a) (omega arith)

pub one_view : (p : Plan) (held : Filling) (view other : ByteMap) → AreSized held p → IsView p held view → IsView p held other → (x : ℕ) → view x ≡ other x
one_view p held view other sizes v w x = go (list_any (is_executed x) (regions_of p)) refl
  where
    within : (i : ℕ) (r : Planned) → slice_get (regions_of p) i ≡ Some r → r.base ≤ x → x < end_of r → (x < zero_base_of r) ⊎ (zero_base_of r ≤ x) → view x ≡ other x
    within i r at low high (inl lt) =
        let size = bytes_size held r (all_at (λ q. Sizes (held q) q.things) (regions_of p) i r sizes at) in
        let a = all_at (λ q. Holds view q.base (region_bytes held q)) (regions_of p) i r v.loaded at in
        let b = all_at (λ q. Holds other q.base (region_bytes held q)) (regions_of p) i r w.loaded at in
        held_at view r.base (region_bytes held r) x a low (omega (arith, lt, size)) ∙ sym (held_at other r.base (region_bytes held r) x b low (omega (arith, lt, size)))
    within i r at low high (inr le) =
        let size = length-zeros (zero_length_of r) in
        let a = all_at (λ q. Holds view (zero_base_of q) (zeros (zero_length_of q))) (regions_of p) i r v.cleared at in
        let b = all_at (λ q. Holds other (zero_base_of q) (zeros (zero_length_of q))) (regions_of p) i r w.cleared at in
        held_at view (zero_base_of r) (zeros (zero_length_of r)) x a le (omega (arith, high, size)) ∙ sym (held_at other (zero_base_of r) (zeros (zero_length_of r)) x b le (omega (arith, high, size)))

    go : (d : Bool) → list_any (is_executed x) (regions_of p) ≡ d → view x ≡ other x
    go true e =
        let (i, r, at, inside) = any_found (is_executed x) (regions_of p) e in
        let range = covers-true r.base (execution_size r) x inside in
        within i r at range.0 (omega (arith, range.1)) (cases_lt x (zero_base_of r))
    go false e = is_none (view x) (v.domain x ∙ e) ∙ sym (is_none (other x) (w.domain x ∙ e))

-- ---- things and gaps

things_shown : (m : ByteMap) (held : Thing → List ℕ) (origin at : ℕ) (ts : List Thing) → Sizes held ts → Holds m at (laid held origin at ts)
    → AllByRecursion (λ t. Holds m t.address (held t.thing)) (stood origin at ts)
things_shown m held origin at [] sizes h = tt
things_shown m held origin at (t ∷ ts) sizes h =
    let filler : List ℕ = zeros (gap origin (alignment_of t) at) in
    let later : List ℕ = laid held origin (start_of origin at t + size_of t) ts in
    let Here : ℕ → Type 0 = λ x. Holds m x (held t ++ later) in
    let here : Holds m (start_of origin at t) (held t ++ later) = subst Here (omega (arith, length-zeros (gap origin (alignment_of t) at))) (back m at filler (held t ++ later) h) in
    let Next : ℕ → Type 0 = λ x. Holds m x later in
    let size = sizes.0 in
    (front m (start_of origin at t) (held t) later here, things_shown m held origin (start_of origin at t + size_of t) ts sizes.1 (subst Next (omega (arith, size)) (back m (start_of origin at t) (held t) later here)))

gaps_zero : (m : ByteMap) (held : Thing → List ℕ) (origin at : ℕ) (ts : List Thing) (x : ℕ) → Sizes held ts → Holds m at (laid held origin at ts) → at ≤ x → x < at + extent origin at ts
    → list_any (takes_up x) (stood origin at ts) ≡ false → m x ≡ Some 0
gaps_zero m held origin at [] x sizes h low high none = absurd (omega arith)
gaps_zero m held origin at (t ∷ ts) x sizes h low high none =
    let filler : List ℕ = zeros (gap origin (alignment_of t) at) in
    let later : List ℕ = laid held origin (start_of origin at t + size_of t) ts in
    let count = length-zeros (gap origin (alignment_of t) at) in
    let Here : ℕ → Type 0 = λ y. Holds m y (held t ++ later) in
    let here : Holds m (start_of origin at t) (held t ++ later) = subst Here (omega (arith, count)) (back m at filler (held t ++ later) h) in
    let Next : ℕ → Type 0 = λ y. Holds m y later in
    let size = sizes.0 in
    let next : Holds m (start_of origin at t + size_of t) later = subst Next (omega (arith, size)) (back m (start_of origin at t) (held t) later here) in
    let (off, rest) = neither (covers (start_of origin at t) (size_of t) x) (list_any (takes_up x) (stood origin (start_of origin at t + size_of t) ts)) none in
    go (cases_lt x (start_of origin at t)) (covers-false (start_of origin at t) (size_of t) x off) (front m at filler (held t ++ later) h)
    (λ from. gaps_zero m held origin (start_of origin at t + size_of t) ts x sizes.1 next from (omega (arith, high)) rest)
  where
    go : (x < start_of origin at t) ⊎ (start_of origin at t ≤ x) → (x < start_of origin at t) ⊎ (start_of origin at t + size_of t ≤ x) → Holds m at (zeros (gap origin (alignment_of t) at))
        → (start_of origin at t + size_of t ≤ x → m x ≡ Some 0) → m x ≡ Some 0
    go (inl lt) side filled next =
        let count = length-zeros (gap origin (alignment_of t) at) in
        held_at m at (zeros (gap origin (alignment_of t) at)) x filled low (omega (arith, count)) ∙ ap Some (get_or-zeros (gap origin (alignment_of t) at) (x - at))
    go (inr le) (inl lt) filled next = absurd (omega arith)
    go (inr le) (inr beyond) filled next = next beyond

pub view_things : (p : Plan) (held : Filling) (view : ByteMap) → AreSized held p → IsView p held view
    → AllByRecursion (λ r. AllByRecursion (λ t. Holds view t.address (held r t.thing)) (stood r.origin r.base r.things)) (regions_of p)
view_things p held view sizes v =
    all_indexed (λ r. AllByRecursion (λ t. Holds view t.address (held r t.thing)) (stood r.origin r.base r.things)) (regions_of p)
    (λ i r at. things_shown view (held r) r.origin r.base r.things (all_at (λ q. Sizes (held q) q.things) (regions_of p) i r sizes at) (all_at (λ q. Holds view q.base (region_bytes held q)) (regions_of p) i r v.loaded at))

pub view_gaps : (p : Plan) (held : Filling) (view : ByteMap) → AreSized held p → IsView p held view
    → AllByRecursion (λ r. (x : ℕ) → r.base ≤ x → x < end_of r → list_any (takes_up x) (stood r.origin r.base r.things) ≡ false → view x ≡ Some 0) (regions_of p)
view_gaps p held view sizes v =
    all_indexed (λ r. (x : ℕ) → r.base ≤ x → x < end_of r → list_any (takes_up x) (stood r.origin r.base r.things) ≡ false → view x ≡ Some 0) (regions_of p)
    (λ i r at x low high none. go i r at x low high none (cases_lt x (zero_base_of r)))
  where
    go : (i : ℕ) (r : Planned) → slice_get (regions_of p) i ≡ Some r → (x : ℕ) → r.base ≤ x → x < end_of r → list_any (takes_up x) (stood r.origin r.base r.things) ≡ false
        → (x < zero_base_of r) ⊎ (zero_base_of r ≤ x) → view x ≡ Some 0
    go i r at x low high none (inl lt) =
        gaps_zero view (held r) r.origin r.base r.things x (all_at (λ q. Sizes (held q) q.things) (regions_of p) i r sizes at) (all_at (λ q. Holds view q.base (region_bytes held q)) (regions_of p) i r v.loaded at) low lt none
    go i r at x low high none (inr le) =
        let count = length-zeros (zero_length_of r) in
        held_at view (zero_base_of r) (zeros (zero_length_of r)) x (all_at (λ q. Holds view (zero_base_of q) (zeros (zero_length_of q))) (regions_of p) i r v.cleared at) le (omega (arith, high, count))
        ∙ ap Some (get_or-zeros (zero_length_of r) (x - zero_base_of r))
