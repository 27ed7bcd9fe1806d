-- The image of an ELF executable: its segments' bytes lie in the file, and memory then holds what the file loads.
use Rattle.std.proofs.Common.{◌≡◌, ℕ, zero, suc, ◌+◌, ◌-◌, ◌<◌, ◌≤◌, ◌⊎◌, inl, inr, Bool, true, false, ◌==◌, if◌then◌else◌, List, [], ◌∷◌, ◌++◌, length, map, take, drop, replicate, get_or, Option, Some, None, refl, sym, ap, ◌∙◌, subst, arith, length-append, eqb-true}
use Rattle.std.specs.Prelude.{unwrap_or, slice_index}
use Rattle.std.specs.List.{AllByRecursion}
use Rattle.std.proofs.lemmas.Bool.{and_from, and_parts, le-leb, leb-true, lt-ltb, ltb-true, false_from_ne_true}
use Rattle.std.proofs.lemmas.List.{length-take-le, length-drop, append-nil, length-replicate, map-append, get_or_append_left, get_or-append-add}
use Rattle.sdt_word.specs.Bytes.{word_in}
use Rattle.boot_code.specs.Maps as maps
use Rattle.boot_code.specs.Maps.{has, map_of}
use Rattle.arm7_model.specs.Memory.{Bytes, store}
use Rattle.arm7_model.proofs.MemoryLemmas.{below_or_not, store-above, store-below, store-in}
use Rattle.elf_image.specs.declared.records.Elf.{Elf}
use Rattle.elf_image.specs.declared.records.Segment.{Segment}
use Rattle.elf_image.specs.Checks.{Apart, Fits, Enters, Holds, IsApart, IsSegment, InMemory, ReadsElf, header_at, header_count, load_checks, segment_in, segments_before}
use Rattle.elf_image.specs.Files as elf
use Rattle.elf_image.specs.Files.{bytes_in}
use Rattle.run_opening.specs.declared.image.Load.{Load}
use Rattle.run_opening.specs.Openings.{loaded}
use Rattle.tool_run.specs.Elfs.{ElfLoadLaw, file_bytes, load_of}

-- ---- how many bytes a segment has

pub file_length : (b : List ℕ) (s : Segment) → IsSegment (length b) s → length (file_bytes b s) ≡ s.file_size
file_length b s h = by_place h.within
  where
    by_place : (s.file_size ≡ 0) ⊎ (s.offset + s.file_size ≤ length b) → length (file_bytes b s) ≡ s.file_size
    by_place (inl none) = ap (λ n. length (take n (drop s.offset b))) none ∙ sym none
    by_place (inr le) = length-take-le s.file_size (drop s.offset b) (omega (arith, length-drop s.offset b))

pub memory_length : (b : List ℕ) (s : Segment) → IsSegment (length b) s → length (bytes_in b s) ≡ s.memory_size
memory_length b s h =
    let held = h.held in
    omega (arith, length-append (file_bytes b s) (replicate (s.memory_size - s.file_size) 0), length-replicate {A = ℕ} (s.memory_size - s.file_size) 0, file_length b s h)

-- ---- the map of what is loaded

inside : (b : List ℕ) (s : Segment) (a : ℕ) → IsSegment (length b) s → InMemory s a → has a (elf.loaded b s) ≡ true
inside b s a h i = and_from _ _ (le-leb _ _ i.0) (lt-ltb _ _ (omega (arith, memory_length b s h)))

outside : (b : List ℕ) (s : Segment) (a : ℕ) → IsSegment (length b) s → (InMemory s a → ⊥) → has a (elf.loaded b s) ≡ false
outside b s a h n =
    false_from_ne_true (has a (elf.loaded b s)) (λ t. let p = and_parts _ _ t in let end = ltb-true _ _ p.1 in n (leb-true _ _ p.0, omega (arith, memory_length b s h)))

nothing : (b : List ℕ) (s : Segment) (ts : List Segment) (a : ℕ) → AllByRecursion (IsSegment (length b)) ts → AllByRecursion (IsApart s) ts → InMemory s a
    → map_of (map (elf.loaded b) ts) a ≡ None
nothing b s [] a h apart i = refl
nothing b s (t ∷ ts) a h apart i = rw (outside b t a h.0 (λ j. apart.0 a i j)) (nothing b s ts a h.1 apart.1 i)

-- with one more segment
elsewhere : (xs : List maps.Segment) (x : maps.Segment) (a : ℕ) → has a x ≡ false → map_of (xs ++ x ∷ []) a ≡ map_of xs a
elsewhere [] x a h = rw h refl
elsewhere (y ∷ ys) x a h = rw (elsewhere ys x a h) refl

there : (xs : List maps.Segment) (x : maps.Segment) (a : ℕ) → map_of xs a ≡ None → has a x ≡ true → map_of (xs ++ x ∷ []) a ≡ Some (slice_index x.bytes (a - x.base))
there [] x a none h = rw h refl
there (y ∷ ys) x a none h = behind (has a y) (slice_index y.bytes (a - y.base)) (map_of ys a) none (λ n. there ys x a n h)
  where
    behind : (t : Bool) (v : ℕ) (o : Option ℕ) → (if t then Some v else o) ≡ None → (o ≡ None → map_of (ys ++ x ∷ []) a ≡ Some (slice_index x.bytes (a - x.base)))
        → (if t then Some v else map_of (ys ++ x ∷ []) a) ≡ Some (slice_index x.bytes (a - x.base))
    behind true v o n next = absurd (cc)
    behind false v o n next = next n

-- ---- memory

loaded_more : (m : Bytes) (xs : List Load) (y : Load) → loaded m (xs ++ y ∷ []) ≡ store (loaded m xs) y.base y.bytes
loaded_more m [] y = refl
loaded_more m (x ∷ xs) y = loaded_more (store m x.base x.bytes) xs y

zero_at : (n k : ℕ) → get_or {A = ℕ} (replicate n 0) k 0 ≡ 0
zero_at zero k = refl
zero_at (suc n) zero = refl
zero_at (suc n) (suc k) = zero_at n k

zero_behind : (xs : List ℕ) (n k : ℕ) → length xs ≤ k → get_or {A = ℕ} (xs ++ replicate n 0) k 0 ≡ 0
zero_behind xs n k le =
    let place : k ≡ length xs + (k - length xs) = omega arith in
    ap (λ i. get_or (xs ++ replicate n 0) i 0) place ∙ (get_or-append-add xs (replicate n 0) (k - length xs) 0 ∙ zero_at n (k - length xs))

-- the memory, and the byte that a file shows with one segment more
abbrev pub held_by : List ℕ → List Segment → Bytes
held_by b ss = loaded (λ x. 0) (map (load_of b) ss)

abbrev shown_with : List ℕ → List Segment → Segment → ℕ → ℕ
shown_with b ss s a = unwrap_or (map_of (map (elf.loaded b) ss ++ elf.loaded b s ∷ []) a) 0

abbrev pub Same : List ℕ → List Segment → Type 0
Same b ss = (a : ℕ) → held_by b ss a ≡ unwrap_or (map_of (map (elf.loaded b) ss) a) 0

-- a segment more, whose bytes lie on zeros
with_one : (b : List ℕ) (ss : List Segment) (s : Segment) → IsSegment (length b) s → AllByRecursion (IsSegment (length b)) ss → AllByRecursion (IsApart s) ss
    → Same b ss → Same b (ss ++ s ∷ [])
with_one b ss s h all apart same a =
    let memory : held_by b (ss ++ s ∷ []) a ≡ store (held_by b ss) s.address (file_bytes b s) a =
    ap (λ (ls : List Load). loaded (λ x. 0) ls a) (map-append (load_of b) ss (s ∷ [])) ∙ ap (λ (m : Bytes). m a) (loaded_more (λ x. 0) (map (load_of b) ss) (load_of b s)) in
    let view : shown_with b ss s a ≡ unwrap_or (map_of (map (elf.loaded b) (ss ++ s ∷ [])) a) 0 =
    ap (λ (ls : List maps.Segment). unwrap_or (map_of ls a) 0) (sym (map-append (elf.loaded b) ss (s ∷ []))) in
    memory ∙ (by_place (below_or_not a s.address) (below_or_not a (s.address + s.memory_size)) (below_or_not a (s.address + s.file_size)) ∙ view)
  where
    off : (InMemory s a → ⊥) → unwrap_or (map_of (map (elf.loaded b) ss) a) 0 ≡ shown_with b ss s a
    off n = ap (λ (o : Option ℕ). unwrap_or o 0) (sym (elsewhere (map (elf.loaded b) ss) (elf.loaded b s) a (outside b s a h n)))

    on : (i : InMemory s a) → slice_index (bytes_in b s) (a - s.address) ≡ shown_with b ss s a
    on i = ap (λ (o : Option ℕ). unwrap_or o 0) (sym (there (map (elf.loaded b) ss) (elf.loaded b s) a (nothing b s ss a all apart i) (inside b s a h i)))

    by_place : (a < s.address) ⊎ (s.address ≤ a) → (a < s.address + s.memory_size) ⊎ (s.address + s.memory_size ≤ a) → (a < s.address + s.file_size) ⊎ (s.address + s.file_size ≤ a)
        → store (held_by b ss) s.address (file_bytes b s) a ≡ shown_with b ss s a
    by_place (inl lt) q r = store-below (held_by b ss) s.address (file_bytes b s) a lt ∙ (same a ∙ off (λ i. let low = i.0 in omega arith))
    by_place (inr le) (inr end) r =
        let held = h.held in
        store-above (held_by b ss) s.address (file_bytes b s) a (omega (arith, file_length b s h)) ∙ (same a ∙ off (λ i. let high = i.1 in omega arith))
    by_place (inr le) (inl lt) (inl low) =
        let size = file_length b s h in
        store-in (held_by b ss) s.address (file_bytes b s) a le (omega arith)
        ∙ (sym (get_or_append_left (file_bytes b s) (replicate (s.memory_size - s.file_size) 0) 0 (a - s.address) (omega arith)) ∙ on (le, lt))
    by_place (inr le) (inl lt) (inr high) =
        let size = file_length b s h in
        let none = nothing b s ss a all apart (le, lt) in
        store-above (held_by b ss) s.address (file_bytes b s) a (omega arith)
        ∙ (same a ∙ (ap (λ (o : Option ℕ). unwrap_or o 0) none
        ∙ (sym (zero_behind (file_bytes b s) (s.memory_size - s.file_size) (a - s.address) (omega arith)) ∙ on (le, lt))))

-- ---- the segments of a file

all_more : (n : ℕ) (ss : List Segment) (s : Segment) → AllByRecursion (IsSegment n) ss → IsSegment n s → AllByRecursion (IsSegment n) (ss ++ s ∷ [])
all_more n [] s all h = (h, tt)
all_more n (t ∷ ts) s all h = (all.0, all_more n ts s all.1 h)

abbrev pub AreLoaded : List ℕ → List Segment → Type 0
AreLoaded b ss = AllByRecursion (IsSegment (length b)) ss × Same b ss

walk : (b : List ℕ) (n : ℕ) → ((k : ℕ) → k < n → Holds (Fits k) b × Holds (Apart k) b) → AreLoaded b (segments_before b n)
walk b zero h = (tt, λ a. refl)
walk b (suc n) h = next (word_in b (header_at b n) == 1) refl (walk b n (λ k lt. h k (omega arith))) (h n (omega arith))
  where
    next : (t : Bool) → (word_in b (header_at b n) == 1) ≡ t → AreLoaded b (segments_before b n) → Holds (Fits n) b × Holds (Apart n) b
        → AreLoaded b (segments_before b n ++ (if t then segment_in b n ∷ [] else []))
    next true e before now =
        let is = eqb-true (word_in b (header_at b n)) 1 e in (
          all_more (length b) (segments_before b n) (segment_in b n) before.0 (now.0 is),
          with_one b (segments_before b n) (segment_in b n) (now.0 is) before.0 (now.1 is) before.1,
        )
    next false e before now = subst (AreLoaded b) (sym (append-nil (segments_before b n))) before

each : (b : List ℕ) (j n : ℕ) → AllByRecursion (λ c. Holds c b) (load_checks j n ++ Enters ∷ []) → (k : ℕ) → k < n → Holds (Fits (j + k)) b × Holds (Apart (j + k)) b
each b j zero h k lt = absurd (omega arith)
each b j (suc n) h zero lt = subst (λ i. Holds (Fits i) b × Holds (Apart i) b) (let same : j ≡ j + 0 = omega arith in same) (h.0, h.1.0)
each b j (suc n) h (suc k) lt =
    subst (λ i. Holds (Fits i) b × Holds (Apart i) b) (let same : suc j + k ≡ j + suc k = omega arith in same) (each b (suc j) n h.1.1 k (omega arith))

pub are_loaded : (b : List ℕ) (e : Elf) → ReadsElf b e → AreLoaded b e.segments
are_loaded b e h =
    subst (AreLoaded b) (sym h.segments) (walk b (header_count b) (λ k lt. subst (λ i. Holds (Fits i) b × Holds (Apart i) b) (let same : 0 + k ≡ k = omega arith in same) (each b 0 (header_count b) h.checked.1.1.1.1.1.1.1 k lt)))

pub are_segments : (b : List ℕ) (e : Elf) → ReadsElf b e → AllByRecursion (IsSegment (length b)) e.segments
are_segments b e h = (are_loaded b e h).0

pub elf_loads : ElfLoadLaw
elf_loads b e h a = (are_loaded b e h).1 a
