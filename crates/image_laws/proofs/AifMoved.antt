-- An ARM image file that can be moved: its relocator and list, and what it becomes at its own base.
use Rattle.std.proofs.Common.{◌≡◌, ◌⊎◌, inl, inr, ℕ, zero, suc, ◌+◌, ◌-◌, ◌*◌, ◌/◌, ◌%◌, ◌^◌, ◌<◌, ◌≤◌, Bool, true, false, ◌==◌, if◌then◌else◌, List, [], ◌∷◌, ◌++◌, length, length-append, append_assoc, get_or, refl, sym, ap, ◌∙◌, arith, eq-eqb, Option, Some}
use Rattle.std.specs.Prelude.{replicate, slice_index, is_some}
use Rattle.std.specs.List.{AllByRecursion}
use Rattle.std.proofs.lemmas.Bool.{cases_lt}
use Rattle.std.proofs.lemmas.List.{append-nil, get_or_append_left, get_or-append-add}
use Rattle.base_lemmas.proofs.BaseLemmas.{all_append, same}
use Rattle.sdt_word.specs.Bytes.{bytes_of}
use Rattle.sdt_word.specs.declared.ranges.Range32.{Range32}
use Rattle.arm7_model.specs.Memory.{Bytes, store}
use Rattle.boot_code.specs.Aif.{Offsets, IsHeader, IsRelocatable, ShowsImage, marked, moved_image, started_image, shifted_file}
use Rattle.boot_code.specs.Boots.{ByteMap}
use Rattle.boot_code.specs.Startup.{HasWords, zeros}
use Rattle.boot_code.specs.Words.{zero_list, relocator_list}
use Rattle.boot_code.proofs.ViewLemmas.{apart_store}
use Rattle.arm7_model.proofs.MemoryLemmas.{store-in}
use Rattle.boot_code.specs.Maps.{bytes_of_words}
use Rattle.place_model.specs.Items.{Item}
use Rattle.place_model.specs.Plans.{Contents, length_of, Plan}
use Rattle.image_model.specs.AifFiles.{size_in, call_from, parts_size, zero_size, header_words, with_header, shifted_offsets, offsets_of, parts_bytes, relocatable_aif, aif_plan}
use Rattle.image_model.specs.Regions.{Given}
use Rattle.image_model.specs.Views.{IsView}
use Rattle.image_laws.specs.AifLaws.{IsAif, RelocatableLaw, OwnBaseLaw}
use Rattle.image_laws.proofs.AifLemmas.{words_there, front_words, behind_words, as_code, words, later, others, split, same_later, same_others, base_small, header_there, header_law}
use Rattle.image_laws.proofs.AifViews.{parts_length, started, within}
use Rattle.image_laws.proofs.RowLemmas.{IsWord, all_words}

-- ---- the list of offsets

-- some of one offset, and others
same_offsets : (limit n o : ℕ) (rest : List ℕ) → (0 < n → (o % 4 ≡ 0) × (128 ≤ o) × (o + 4 ≤ limit)) → Offsets limit rest → Offsets limit (replicate n o ++ rest)
same_offsets limit zero o rest fine h = h
same_offsets limit (suc n) o rest fine h =
    let (whole, low, high) = fine (omega arith) in (whole, low, high, same_offsets limit n o rest (λ lt. (whole, low, high)) h)

offsets_fine : (shifts : ℕ → ℕ) (limit at n : ℕ) → ((o : ℕ) → o < 128 → shifts o ≡ 0) → at % 4 ≡ 0 → at + 4 * n ≤ limit → Offsets limit (shifted_offsets shifts at n)
offsets_fine shifts limit at zero none whole fits = tt
offsets_fine shifts limit at (suc n) none whole fits =
    same_offsets limit (shifts at) at (shifted_offsets shifts (at + 4) n) (λ lt. (whole, low lt (cases_lt at 128), omega (arith, fits)))
    (offsets_fine shifts limit (at + 4) n none (omega (arith, whole)) (omega (arith, fits)))
  where
    low : 0 < shifts at → (at < 128) ⊎ (128 ≤ at) → 128 ≤ at
    low some (inl h) = let zero_there = none at h in absurd (omega arith)
    low some (inr h) = h

offsets_fit : (limit : ℕ) (offsets : List ℕ) → limit < 2 ^ 32 → Offsets limit offsets → AllByRecursion IsWord offsets
offsets_fit limit [] small h = tt
offsets_fit limit (o ∷ offsets) small h = let high = h.2 in (omega (arith, small, high), offsets_fit limit offsets small h.3)

-- ---- the file

module _ (base : ℕ) (c : Contents) (items : List Item) (g : Given) (ram : Option (List Range32)) (shifts : ℕ → ℕ) (a : IsAif base true c items g ram)
    (none : (offset : ℕ) → offset < 128 → shifts offset ≡ 0) (b : ℕ) where
  abbrev p : Plan
  p = aif_plan base true c

  abbrev parts : ℕ
  parts = parts_size p

  abbrev offsets : List ℕ
  offsets = offsets_of shifts p

  abbrev tail : List ℕ
  tail = relocator_list ++ (offsets ++ 0xFFFFFFFF ∷ [])

  abbrev m : Bytes
  m = shifted_file (relocatable_aif p base g shifts) b

  header : IsHeader m b parts (zero_size p) (g.call - base)
  header = header_law base true c items g ram a true (bytes_of_words tail) b

  fits : Offsets parts offsets
  fits = let whole = header.parts_whole in offsets_fine shifts parts 0 (parts / 4) none refl (omega (arith, whole))

  tail_fits : AllByRecursion IsWord tail
  tail_fits =
      let most = header.parts_small in
      all_append IsWord relocator_list (offsets ++ 0xFFFFFFFF ∷ []) (all_words relocator_list refl)
      (all_append IsWord offsets (0xFFFFFFFF ∷ []) (offsets_fit parts offsets (omega (arith, most)) fits) (omega arith, tt))

  tail_there : HasWords m (b + parts) tail
  tail_there =
      let size = parts_length base true c items g ram a true in
      words_there m (b + parts) tail [] tail_fits (λ n lt.
      let at : b + parts + n - b ≡ length (parts_bytes true p base g) + n = omega (arith, size) in
      ap (slice_index (relocatable_aif p base g shifts)) at ∙ get_or-append-add (parts_bytes true p base g) (bytes_of_words tail) n 0
      ∙ ap (λ (bytes : List ℕ). slice_index bytes n) (sym (append-nil (bytes_of_words tail))))

  relocatable : IsRelocatable m b parts (zero_size p) base (g.call - base) offsets
  relocatable =
      let there = header_there base true c items g ram a true (bytes_of_words tail) b in
      let code = as_code m b (header_words true p base g.call) there in
      record {
        header = header;
        base_small = base_small base true c items g ram a;
        move_call = code 1 (omega arith);
        base_word = code 10 (omega arith);
        move_code = as_code m (b + parts) relocator_list (front_words m (b + parts) relocator_list (offsets ++ 0xFFFFFFFF ∷ []) tail_there);
        list_words = behind_words m (b + parts) relocator_list (offsets ++ 0xFFFFFFFF ∷ []) tail_there;
        list_fits = fits;
      }

pub relocatable_law : RelocatableLaw
relocatable_law = relocatable

-- ---- at its own base

-- bytes of which the fifth to eighth differ
beside : (a0 a1 a2 a3 c0 c1 c2 c3 d0 d1 d2 d3 n : ℕ) (rest behind : List ℕ) → (n < 4) ⊎ (8 ≤ n) → n < 8 + length rest
    → slice_index (a0 ∷ a1 ∷ a2 ∷ a3 ∷ d0 ∷ d1 ∷ d2 ∷ d3 ∷ (rest ++ behind)) n ≡ slice_index (a0 ∷ a1 ∷ a2 ∷ a3 ∷ c0 ∷ c1 ∷ c2 ∷ c3 ∷ rest) n
beside a0 a1 a2 a3 c0 c1 c2 c3 d0 d1 d2 d3 zero rest behind side lt = refl
beside a0 a1 a2 a3 c0 c1 c2 c3 d0 d1 d2 d3 (suc zero) rest behind side lt = refl
beside a0 a1 a2 a3 c0 c1 c2 c3 d0 d1 d2 d3 (suc (suc zero)) rest behind side lt = refl
beside a0 a1 a2 a3 c0 c1 c2 c3 d0 d1 d2 d3 (suc (suc (suc zero))) rest behind side lt = refl
beside a0 a1 a2 a3 c0 c1 c2 c3 d0 d1 d2 d3 (suc (suc (suc (suc zero)))) rest behind (inl side) lt = absurd (omega arith)
beside a0 a1 a2 a3 c0 c1 c2 c3 d0 d1 d2 d3 (suc (suc (suc (suc zero)))) rest behind (inr side) lt = absurd (omega arith)
beside a0 a1 a2 a3 c0 c1 c2 c3 d0 d1 d2 d3 (suc (suc (suc (suc (suc zero))))) rest behind (inl side) lt = absurd (omega arith)
beside a0 a1 a2 a3 c0 c1 c2 c3 d0 d1 d2 d3 (suc (suc (suc (suc (suc zero))))) rest behind (inr side) lt = absurd (omega arith)
beside a0 a1 a2 a3 c0 c1 c2 c3 d0 d1 d2 d3 (suc (suc (suc (suc (suc (suc zero)))))) rest behind (inl side) lt = absurd (omega arith)
beside a0 a1 a2 a3 c0 c1 c2 c3 d0 d1 d2 d3 (suc (suc (suc (suc (suc (suc zero)))))) rest behind (inr side) lt = absurd (omega arith)
beside a0 a1 a2 a3 c0 c1 c2 c3 d0 d1 d2 d3 (suc (suc (suc (suc (suc (suc (suc zero))))))) rest behind (inl side) lt = absurd (omega arith)
beside a0 a1 a2 a3 c0 c1 c2 c3 d0 d1 d2 d3 (suc (suc (suc (suc (suc (suc (suc zero))))))) rest behind (inr side) lt = absurd (omega arith)
beside a0 a1 a2 a3 c0 c1 c2 c3 d0 d1 d2 d3 (suc (suc (suc (suc (suc (suc (suc (suc n)))))))) rest behind side lt = get_or_append_left rest behind 0 n (omega arith)

module _ (base : ℕ) (c : Contents) (items : List Item) (g : Given) (ram : Option (List Range32)) (shifts : ℕ → ℕ) (a : IsAif base true c items g ram)
    (view : ByteMap) (v : IsView (aif_plan base true c) (with_header false (aif_plan base true c) base g) view) where
  abbrev plan : Plan
  plan = aif_plan base true c

  abbrev behind : List ℕ
  behind = bytes_of_words (relocator_list ++ (offsets_of shifts plan ++ 0xFFFFFFFF ∷ []))

  abbrev own : Bytes
  own = shifted_file (relocatable_aif plan base g shifts) base

  abbrev front : Bool → List ℕ
  front moves = bytes_of_words (words base true c items g ram a moves)

  abbrev later_bytes : Bool → List ℕ
  later_bytes moves = later base true c items g ram a moves ++ others base true c items g ram a moves

  -- the words of the header from the third on
  abbrev third_words : List ℕ
  third_words =
      (if zero_size plan == 0 then 0xE1A00000 else call_from 8 0x40) ∷ call_from 0xC (g.call - base) ∷ 0xEF000011 ∷ size_in length_of plan 0 ∷ size_in length_of plan 1 ∷ 0 ∷ zero_size plan
      ∷ 0 ∷ base ∷ 0 ∷ 32 ∷ 0 ∷ 0 ∷ 0 ∷ zero_list

  -- the bytes of the parts without a relocator
  without : parts_bytes false plan base g ≡ front false ++ later_bytes false
  without =
      sym (append-nil (parts_bytes false plan base g)) ∙ split base true c items g ram a false []
      ∙ ap (λ (bytes : List ℕ). front false ++ (later base true c items g ram a false ++ bytes)) (append-nil (others base true c items g ram a false))

  with_it : relocatable_aif plan base g shifts ≡ front true ++ (later_bytes false ++ behind)
  with_it =
      split base true c items g ram a true behind ∙ ap (λ (bytes : List ℕ). front true ++ bytes) (sym (append_assoc (later base true c items g ram a true) (others base true c items g ram a true) behind))
      ∙ ap (λ (bytes : List ℕ). front true ++ ((bytes ++ others base true c items g ram a true) ++ behind)) (same_later base true c items g ram a)
      ∙ ap (λ (bytes : List ℕ). front true ++ ((later base true c items g ram a false ++ bytes) ++ behind)) (same_others base true c items g ram a)

  same_beside : (n : ℕ) → (n < 4) ⊎ (8 ≤ n) → n < parts_size plan → slice_index (relocatable_aif plan base g shifts) n ≡ slice_index (parts_bytes false plan base g) n
  same_beside n side lt =
      let rest : List ℕ = bytes_of_words third_words ++ later_bytes false in
      let size = parts_length base true c items g ram a false in
      let all : length (parts_bytes false plan base g) ≡ length (front false ++ later_bytes false) = ap length without in
      let l0 : length (front false) ≡ 128 = refl in
      let l1 : length (bytes_of_words third_words) ≡ 120 = refl in
      let l2 = length-append (front false) (later_bytes false) in
      let l3 = length-append (bytes_of_words third_words) (later_bytes false) in
      let fits : n < 8 + length rest = omega (arith, lt, size, all, l0, l1, l2, l3) in
      let e : slice_index (front true ++ (later_bytes false ++ behind)) n ≡ slice_index (front false ++ later_bytes false) n =
      beside _ _ _ _ _ _ _ _ _ _ _ _ n rest behind side fits in
      ap (λ (bytes : List ℕ). slice_index bytes n) with_it ∙ e ∙ sym (ap (λ (bytes : List ℕ). slice_index bytes n) without)

  word_1 : (j : ℕ) → j < 4 → slice_index (parts_bytes false plan base g) (4 + j) ≡ get_or (bytes_of 0xE1A00000 4) j 0
  word_1 zero lt = ap (λ (bytes : List ℕ). slice_index bytes 4) without
  word_1 (suc zero) lt = ap (λ (bytes : List ℕ). slice_index bytes 5) without
  word_1 (suc (suc zero)) lt = ap (λ (bytes : List ℕ). slice_index bytes 6) without
  word_1 (suc (suc (suc zero))) lt = ap (λ (bytes : List ℕ). slice_index bytes 7) without
  word_1 (suc (suc (suc (suc j)))) lt = absurd (omega arith)

  word_10 : (j : ℕ) → j < 4 → slice_index (parts_bytes false plan base g) (40 + j) ≡ get_or (bytes_of base 4) j 0
  word_10 zero lt = ap (λ (bytes : List ℕ). slice_index bytes 40) without
  word_10 (suc zero) lt = ap (λ (bytes : List ℕ). slice_index bytes 41) without
  word_10 (suc (suc zero)) lt = ap (λ (bytes : List ℕ). slice_index bytes 42) without
  word_10 (suc (suc (suc zero))) lt = ap (λ (bytes : List ℕ). slice_index bytes 43) without
  word_10 (suc (suc (suc (suc j)))) lt = absurd (omega arith)

  abbrev bytes_at : ℕ → ℕ
  bytes_at n = slice_index (parts_bytes false plan base g) n

  own_marked : (x : ℕ) → base ≤ x → x < base + parts_size plan → marked own base x ≡ bytes_at (x - base)
  own_marked x low high = by_call (cases_lt x (base + 4)) (cases_lt x (base + 8))
    where
      by_base : (x < base + 4) ⊎ (base + 8 ≤ x) → (x < base + 40) ⊎ (base + 40 ≤ x) → (x < base + 44) ⊎ (base + 44 ≤ x) → store own (base + 40) (bytes_of base 4) x ≡ bytes_at (x - base)
      by_base side (inr from) (inl to) =
          let at : x - base ≡ 40 + (x - (base + 40)) = omega (arith, from) in
          store-in own (base + 40) (bytes_of base 4) x from (omega (arith, to)) ∙ sym (ap bytes_at at ∙ word_10 (x - (base + 40)) (omega (arith, from, to)))
      by_base (inl before) (inl lt) to = apart_store own (base + 40) (bytes_of base 4) x (inl lt) ∙ same_beside (x - base) (inl (omega (arith, low, before))) (omega (arith, low, high))
      by_base (inr after) (inl lt) to = apart_store own (base + 40) (bytes_of base 4) x (inl lt) ∙ same_beside (x - base) (inr (omega (arith, after))) (omega (arith, low, high))
      by_base (inl before) (inr from) (inr le) = absurd (omega (arith, before, from))
      by_base (inr after) (inr from) (inr le) =
          apart_store own (base + 40) (bytes_of base 4) x (inr (omega (arith, le))) ∙ same_beside (x - base) (inr (omega (arith, after))) (omega (arith, low, high))

      apart : (x < base + 4) ⊎ (base + 8 ≤ x) → marked own base x ≡ bytes_at (x - base)
      apart (inl before) = apart_store (store own (base + 40) (bytes_of base 4)) (base + 4) (bytes_of 0xE1A00000 4) x (inl before) ∙ by_base (inl before) (cases_lt x (base + 40)) (cases_lt x (base + 44))
      apart (inr after) =
          apart_store (store own (base + 40) (bytes_of base 4)) (base + 4) (bytes_of 0xE1A00000 4) x (inr (omega (arith, after))) ∙ by_base (inr after) (cases_lt x (base + 40)) (cases_lt x (base + 44))

      by_call : (x < base + 4) ⊎ (base + 4 ≤ x) → (x < base + 8) ⊎ (base + 8 ≤ x) → marked own base x ≡ bytes_at (x - base)
      by_call (inl before) side = apart (inl before)
      by_call (inr from) (inr after) = apart (inr after)
      by_call (inr from) (inl to) =
          let at : x - base ≡ 4 + (x - (base + 4)) = omega (arith, from) in
          store-in (store own (base + 40) (bytes_of base 4)) (base + 4) (bytes_of 0xE1A00000 4) x from (omega (arith, to)) ∙ sym (ap bytes_at at ∙ word_1 (x - (base + 4)) (omega (arith, from, to)))

  own_started : (x : ℕ) → base ≤ x → x < base + parts_size plan + zero_size plan
      → view x ≡ Some (started_image own base (parts_size plan) (zero_size plan) base (offsets_of shifts plan) x)
  own_started x low high =
      let here : (base == base) ≡ true = eq-eqb base base refl in
      let unmoved : moved_image own base base (offsets_of shifts plan) ≡ marked own base = rw here refl in
      started base true c items g ram a view v (marked own base) own_marked x low high
      ∙ ap (λ (m : Bytes). Some (store m (base + parts_size plan) (zeros (zero_size plan)) x)) (sym unmoved)

  own_shown : ShowsImage (relocatable_aif plan base g shifts) (parts_size plan) (zero_size plan) base (offsets_of shifts plan) base view
  own_shown = record {
    inside = λ x n e.
        let (low, high) = within base true c items g ram a view v x (ap is_some e) in
        (low, high, same (started_image own base (parts_size plan) (zero_size plan) base (offsets_of shifts plan) x) n (sym (own_started x low high) ∙ e));
    whole = λ x low high. (started_image own base (parts_size plan) (zero_size plan) base (offsets_of shifts plan) x, own_started x low high);
  }

pub own_base_law : OwnBaseLaw
own_base_law base c items g ram shifts view a v = own_shown base c items g ram shifts a view v
