-- The header of an ARM image file, and what its file has.
use Rattle.std.proofs.Common.{◌≡◌, ℕ, zero, suc, ◌+◌, ◌-◌, ◌*◌, ◌%◌, ◌^◌, ◌<◌, ◌≤◌, Bool, true, false, not, ◌==◌, if◌then◌else◌, List, [], ◌∷◌, ◌++◌, length, append_assoc, map, get_or, refl, ap, subst, ◌∙◌, arith, Option, Some, None}
use Rattle.std.specs.Prelude.{slice_index, nat_lt}
use Rattle.std.specs.List.{filter, AllByRecursion}
use Rattle.std.specs.Option.{option_map, option_or}
use Rattle.std.proofs.lemmas.List.Sums.{sum_by-cons}
use Rattle.base_lemmas.proofs.BaseLemmas.{all_append}
use Rattle.sdt_word.specs.Bytes.{bytes_of, number_of, word}
use Rattle.sdt_word.specs.declared.ranges.Range32.{Range32}
use Rattle.sdt_word.proofs.BytesLemmas.{number_of-bytes_of}
use Rattle.sdt_fault.specs.declared.kinds.Quantity.TheVariants.{AifBytes}
use Rattle.sdt_fault.specs.declared.refusal.Refusal.TheVariants.{TooLarge}
use Rattle.arm7_model.specs.Memory.{Bytes}
use Rattle.arm7_model.proofs.MemoryLemmas.{load-same}
use Rattle.boot_code.specs.Aif.{HasCode, IsHeader, shifted_file}
use Rattle.boot_code.specs.Startup.{HasWords, zeros}
use Rattle.boot_code.specs.Words.{zero_code, zero_list}
use Rattle.boot_code.specs.Maps.{bytes_of_words}
use Rattle.place_model.specs.declared.scatter.Kind.{Kind}
use Rattle.place_model.specs.declared.scatter.Kind.TheVariants as kind
use Rattle.place_model.specs.Faults.{first_told, rootless, overfull, judged, overlap, copy_conflict, image_bytes, too_large, aif_too_large, not_writable, as_overlap, as_conflict}
use Rattle.place_model.specs.Items.{Item, is_zero_initialised}
use Rattle.place_model.specs.Laws.{IsWholeRegion}
use Rattle.place_model.specs.Plans.{Contents, RegionVeneer, areas_in, veneers_in, Planned, length_of, zero_length_of, execution_size, Plan, regions_of}
use Rattle.place_model.specs.Things.{Thing, Header, AnArea, AVeneer, alignment_of, size_of, gap, extent, start_of}
use Rattle.place_model.proofs.ListLemmas.{all_indexed, all_map}
use Rattle.place_model.proofs.PlanLemmas.{whole_law}
use Rattle.place_model.proofs.SpanLemmas.{or_none, lt-false}
use Rattle.image_model.specs.AifFiles.{parts_size, zero_size, call_from, header_words, with_header, parts_bytes, aif_plan}
use Rattle.image_model.specs.Regions.{Given, Filling, laid, region_bytes}
use Rattle.image_laws.specs.AifLaws.{IsAif, HeaderLaw}
use Rattle.image_laws.proofs.FileLemmas.{rooms}
use Rattle.image_laws.proofs.PlainLemmas.{r0, r1, r2, zero_0, zero_1, third_empty}
use Rattle.image_laws.proofs.RowLemmas.{IsWord, all_words}

-- ---- words in memory

-- a memory has words where it has their bytes
pub words_there : (m : Bytes) (a : ℕ) (ws rest : List ℕ) → AllByRecursion IsWord ws → ((n : ℕ) → n < 4 * length ws → m (a + n) ≡ slice_index (bytes_of_words ws ++ rest) n) → HasWords m a ws
words_there m a [] rest small h = tt
words_there m a (w ∷ ws) rest small h = (
  ap number_of (load-same m (λ n. get_or (bytes_of w 4) n 0) a 0 4 (λ n lt. h n (omega arith) ∙ here n lt)) ∙ number_of-bytes_of w 4 small.0,
  words_there m (a + 4) ws rest small.1 (λ n lt. let there : a + 4 + n ≡ a + suc (suc (suc (suc n))) = omega arith in ap m there ∙ h (suc (suc (suc (suc n)))) (omega arith)),
)
  where
    here : (n : ℕ) → n < 4 → slice_index (bytes_of_words (w ∷ ws) ++ rest) n ≡ get_or (bytes_of w 4) (0 + n) 0
    here zero lt = refl
    here (suc zero) lt = refl
    here (suc (suc zero)) lt = refl
    here (suc (suc (suc zero))) lt = refl
    here (suc (suc (suc (suc n)))) lt = absurd (omega arith)

-- words one behind the other
pub front_words : (m : Bytes) (a : ℕ) (xs ys : List ℕ) → HasWords m a (xs ++ ys) → HasWords m a xs
front_words m a [] ys h = tt
front_words m a (x ∷ xs) ys h = (h.0, front_words m (a + 4) xs ys h.1)

pub as_code : (m : Bytes) (a : ℕ) (ws : List ℕ) → HasWords m a ws → HasCode m a ws
as_code m a [] h i lt = absurd (omega arith)
as_code m a (w ∷ ws) h zero lt = let there : a + 4 * 0 ≡ a = omega arith in ap (word m) there ∙ h.0
as_code m a (w ∷ ws) h (suc i) lt = let there : a + 4 * suc i ≡ a + 4 + 4 * i = omega arith in ap (word m) there ∙ as_code m (a + 4) ws h.1 i (omega arith)

pub behind_words : (m : Bytes) (a : ℕ) (xs ys : List ℕ) → HasWords m a (xs ++ ys) → HasWords m (a + 4 * length xs) ys
behind_words m a [] ys h = let At : ℕ → Type 0 = λ n. HasWords m n ys in subst At (omega arith) h
behind_words m a (x ∷ xs) ys h = let At : ℕ → Type 0 = λ n. HasWords m n ys in subst At (omega arith) (behind_words m (a + 4) xs ys h.1)

-- ---- bytes of things

-- what holds each thing alike gives the same bytes
laid_same : (one other : Thing → List ℕ) (origin at : ℕ) (ts : List Thing) → AllByRecursion (λ t. one t ≡ other t) ts → laid one origin at ts ≡ laid other origin at ts
laid_same one other origin at [] all = refl
laid_same one other origin at (t ∷ ts) all =
    ap (λ (bytes : List ℕ). zeros (gap origin (alignment_of t) at) ++ (bytes ++ laid one origin (start_of origin at t + size_of t) ts)) all.0
    ∙ ap (λ (bytes : List ℕ). zeros (gap origin (alignment_of t) at) ++ (other t ++ bytes)) (laid_same one other origin (start_of origin at t + size_of t) ts all.1)

-- ---- the image

module _ (base : ℕ) (rel : Bool) (c : Contents) (items : List Item) (g : Given) (ram : Option (List Range32)) (a : IsAif base rel c items g ram) where
  abbrev k : Kind
  k = kind.Aif base rel

  abbrev p : Plan
  p = aif_plan base rel c

  abbrev pub ro : Planned
  ro = r0 k c base items a.assigned.each

  abbrev pub rw_ : Planned
  rw_ = r1 k c base items a.assigned.each

  abbrev pub zi : Planned
  zi = r2 k c base items a.assigned.each

  pub base_whole : base % 4 ≡ 0
  base_whole = a.whole.loads.0

  whole : AllByRecursion IsWholeRegion (ro ∷ rw_ ∷ zi ∷ [])
  whole = whole_law k c 0 a.whole

  pub no_zero_0 : zero_length_of ro ≡ 0
  no_zero_0 = zero_0 k c base items a.assigned.each

  pub no_zero_1 : zero_length_of rw_ ≡ 0
  no_zero_1 = zero_1 k c base items a.assigned.each

  -- nothing of the third region is loaded
  pub nothing_behind : zi.things ≡ []
  nothing_behind =
      ap (λ (is : List Item). map AnArea is ++ (veneers_in c 2 ++ [])) (third_empty k c base items a.assigned.each) ∙ ap (λ (ts : List Thing). ts ++ []) a.no_veneers

  pub no_length_2 : length_of zi ≡ 0
  no_length_2 = ap (extent zi.origin zi.base) nothing_behind

  pub small : image_bytes p ≤ 2 ^ 24
  small =
      let tail4 = option_or (too_large p) (option_or (aif_too_large k p) (not_writable ram p)) in
      let tail3 = option_or (option_map as_conflict (copy_conflict p)) tail4 in
      let tail2 = option_or (option_map as_overlap (overlap p)) tail3 in
      let tail1 = option_or (first_told overfull (judged k p)) tail2 in
      let h1 = (or_none (rootless (regions_of p)) tail1 a.accepted).1 in
      let h2 = (or_none (first_told overfull (judged k p)) tail2 h1).1 in
      let h3 = (or_none (option_map as_overlap (overlap p)) tail3 h2).1 in
      let h4 = (or_none (option_map as_conflict (copy_conflict p)) tail4 h3).1 in
      let h5 = (or_none (too_large p) (option_or (aif_too_large k p) (not_writable ram p)) h4).1 in
      go (nat_lt (2 ^ 24) (image_bytes p)) refl (or_none (aif_too_large k p) (not_writable ram p) h5).0
    where
      go : (b : Bool) → nat_lt (2 ^ 24) (image_bytes p) ≡ b → (if b then Some (TooLarge AifBytes (2 ^ 24)) else None) ≡ None → image_bytes p ≤ 2 ^ 24
      go true e h = absurd cc
      go false e h = lt-false (2 ^ 24) (image_bytes p) e

  bytes_sum : image_bytes p ≡ execution_size ro + (execution_size rw_ + execution_size zi)
  bytes_sum =
      let x = sum_by-cons execution_size ro (rw_ ∷ zi ∷ []) in
      let y = sum_by-cons execution_size rw_ (zi ∷ []) in
      let z = sum_by-cons execution_size zi [] in
      omega arith

  pub size_most : parts_size p + zero_size p ≤ 2 ^ 24
  size_most = let sum = bytes_sum in let most = small in omega arith

  gap_0 : gap ro.origin 4 base ≡ 0
  gap_0 = go rel
    where
      go : (b : Bool) → gap (if b then base else 0) 4 base ≡ 0
      go true = let h = base_whole in omega (arith, h)
      go false = let h = base_whole in omega (arith, h)

  -- ---- the header

  abbrev pub words : Bool → List ℕ
  words moves = header_words moves p base g.call

  abbrev held : Bool → Filling
  held moves = with_header moves p base g

  abbrev behind_header : List Thing
  behind_header = map AnArea (filter (λ i. not (is_zero_initialised i)) (areas_in c 0)) ++ (veneers_in c 0 ++ [])

  abbrev pub later : Bool → List ℕ
  later moves = laid (held moves ro) ro.origin (start_of ro.origin base Header + 128) behind_header

  header_first : (moves : Bool) → region_bytes (held moves) ro ≡ bytes_of_words (words moves) ++ later moves
  header_first moves = ap (λ (n : ℕ). zeros n ++ (bytes_of_words (words moves) ++ later moves)) gap_0

  pub header_low : 128 ≤ length_of ro
  header_low = let e : length_of ro ≡ gap ro.origin 4 base + 128 + extent ro.origin (start_of ro.origin base Header + 128) behind_header = refl in omega arith

  pub room : AllByRecursion (λ r. r.base + execution_size r ≤ 2 ^ 32) (ro ∷ rw_ ∷ zi ∷ [])
  room = rooms k ram p a.accepted

  pub base_small : base < 2 ^ 32
  base_small = let low = header_low in let end = room.0 in omega (arith, low, end)

  abbrev sizes : List ℕ
  sizes = length_of ro ∷ length_of rw_ ∷ 0 ∷ zero_size p ∷ 0 ∷ base ∷ []

  sizes_fit : AllByRecursion IsWord (sizes ++ (0 ∷ 32 ∷ 0 ∷ 0 ∷ 0 ∷ zero_list))
  sizes_fit =
      let most = size_most in let room = base_small in
      all_append IsWord sizes (0 ∷ 32 ∷ 0 ∷ 0 ∷ 0 ∷ zero_list) (omega arith, (omega arith, (omega arith, (omega arith, (omega arith, (omega arith, tt))))))
      (all_words (0 ∷ 32 ∷ 0 ∷ 0 ∷ 0 ∷ zero_list) refl)

  words_fit : (moves : Bool) → AllByRecursion IsWord (words moves)
  words_fit moves =
      let most = size_most in let low = a.call_low in let high = a.call_high in let room = base_small in (
        omega arith,
        (either moves (call_from 4 (parts_size p)) (omega arith), (either_not (zero_size p == 0), (omega arith, (omega arith, sizes_fit)))),
      )
    where
      either : (b : Bool) (n : ℕ) → n < 2 ^ 32 → (if b then n else 0xE1A00000) < 2 ^ 32
      either true n h = h
      either false n h = omega arith

      either_not : (b : Bool) → (if b then 0xE1A00000 else call_from 8 0x40) < 2 ^ 32
      either_not true = omega arith
      either_not false = omega arith

  abbrev pub others : Bool → List ℕ
  others moves = region_bytes (held moves) rw_ ++ (region_bytes (held moves) zi ++ [])

  pub split : (moves : Bool) (behind : List ℕ) → parts_bytes moves p base g ++ behind ≡ bytes_of_words (words moves) ++ (later moves ++ (others moves ++ behind))
  split moves behind =
      ap (λ (xs : List ℕ). (xs ++ others moves) ++ behind) (header_first moves)
      ∙ append_assoc (bytes_of_words (words moves) ++ later moves) (others moves) behind ∙ append_assoc (bytes_of_words (words moves)) (later moves) (others moves ++ behind)

  pub header_there : (moves : Bool) (behind : List ℕ) (b : ℕ) → HasWords (shifted_file (parts_bytes moves p base g ++ behind) b) b (words moves)
  header_there moves behind b =
      let file : List ℕ = parts_bytes moves p base g ++ behind in
      words_there (shifted_file file b) b (words moves) (later moves ++ (others moves ++ behind)) (words_fit moves)
      (λ n lt. let at : b + n - b ≡ n = omega arith in ap (slice_index file) at ∙ ap (λ (xs : List ℕ). slice_index xs n) (split moves behind))

  header : (moves : Bool) (behind : List ℕ) (b : ℕ) → IsHeader (shifted_file (parts_bytes moves p base g ++ behind) b) b (parts_size p) (zero_size p) (g.call - base)
  header moves behind b =
      let m : Bytes = shifted_file (parts_bytes moves p base g ++ behind) b in
      let there = header_there moves behind b in
      let code = as_code m b (words moves) there in
      let l0 = whole.0.loaded in let l1 = whole.1.0.loaded in let l2 = whole.1.1.0.loaded in let z2 = whole.1.1.0.cleared in
      let low = header_low in let most = size_most in let base_4 = base_whole in
      let call_4 = a.call_whole in let call_low = a.call_low in let call_high = a.call_high in
      let of_ro : word m (b + 20) ≡ length_of ro = code 5 (omega arith) in
      let of_rw : word m (b + 24) ≡ length_of rw_ = code 6 (omega arith) in
      record {
        parts_whole = omega (arith, l0, l1);
        parts_low = omega (arith, low);
        parts_small = omega (arith, most);
        zero_whole = omega (arith, l2, z2);
        zero_small = omega (arith, most);
        entry_whole = omega (arith, base_4, call_4, call_low);
        entry_low = omega (arith, call_low);
        entry_high = omega (arith, call_low, call_high);
        entry_near = omega (arith, call_low, call_high, most);
        nothing = there.0;
        clear_call = code 2 (omega arith);
        entry_call = code 3 (omega arith);
        sizes = omega (arith, of_ro, of_rw);
        zero_word = code 8 (omega arith);
        clear_code = as_code m (b + 64) zero_code (front_words m (b + 64) zero_code (0 ∷ 0 ∷ 0 ∷ 0 ∷ []) (behind_words m b
            (0xE1A00000 ∷ (if moves then call_from 4 (parts_size p) else 0xE1A00000) ∷ (if zero_size p == 0 then 0xE1A00000 else call_from 8 0x40) ∷ call_from 0xC (g.call - base) ∷ 0xEF000011
            ∷ length_of ro ∷ length_of rw_ ∷ 0 ∷ zero_size p ∷ 0 ∷ base ∷ 0 ∷ 32 ∷ 0 ∷ 0 ∷ 0 ∷ []) zero_list there));
      }

  -- but for the header's second word all is the same with a relocator and without
  same_things : (r : Planned) (n : ℕ)
      → AllByRecursion (λ t. held true r t ≡ held false r t) (map AnArea (filter (λ i. not (is_zero_initialised i)) (areas_in c n)) ++ (veneers_in c n ++ []))
  same_things r n =
      let own : List Item = filter (λ i. not (is_zero_initialised i)) (areas_in c n) in
      let some : List RegionVeneer = filter (λ v. v.region == n) c.veneers in
      let P : Thing → Type 0 = λ t. held true r t ≡ held false r t in
      all_append P (map AnArea own) (veneers_in c n ++ []) (all_map P AnArea own (all_indexed (λ i. P (AnArea i)) own (λ i x h. refl)))
      (all_append P (veneers_in c n) [] (all_map P (λ v. AVeneer v.target v.thumb) some (all_indexed (λ v. P (AVeneer v.target v.thumb)) some (λ i x h. refl))) tt)

  pub same_later : later true ≡ later false
  same_later = laid_same (held true ro) (held false ro) ro.origin (start_of ro.origin base Header + 128) behind_header (same_things ro 0)

  pub same_others : others true ≡ others false
  same_others =
      ap (λ (bytes : List ℕ). bytes ++ (region_bytes (held true) zi ++ [])) (laid_same (held true rw_) (held false rw_) rw_.origin rw_.base rw_.things (same_things rw_ 1))
      ∙ ap (λ (bytes : List ℕ). region_bytes (held false) rw_ ++ (bytes ++ [])) (laid_same (held true zi) (held false zi) zi.origin zi.base zi.things (same_things zi 2))

pub header_law : HeaderLaw
header_law base rel c items g ram a moves behind b = header base rel c items g ram a moves behind b
