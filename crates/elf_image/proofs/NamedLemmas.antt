-- The file of an image with sections and symbols reads as its record, and loads what its load regions are: what a reader of
-- program headers looks at is as without them.
use Rattle.std.proofs.Common.{◌≡◌, ℕ, zero, suc, ◌+◌, ◌*◌, ◌%◌, ◌<◌, ◌≤◌, ◌⊎◌, inl, inr, List, [], ◌∷◌, ◌++◌, length, map, take, drop, refl, sym, ap, ◌∙◌, subst, append_assoc, arith}
use Rattle.std.specs.List.{AllByRecursion}
use Rattle.std.proofs.lemmas.List.{length-append}
use Rattle.base_lemmas.proofs.BaseLemmas.{all_append}
use Rattle.sdt_word.specs.Bytes.{half_in, number_of, word_in}
use Rattle.sdt_word.proofs.BytesLemmas.{number_of-bytes_of}
use Rattle.boot_code.specs.Maps.{bytes_of_words, map_of}
use Rattle.link_model.specs.declared.images.Image.{Image}
use Rattle.elf_image.specs.declared.records.Segment.{Segment}
use Rattle.elf_image.specs.declared.tables.Tables.{Tables}
use Rattle.elf_image.specs.Checks.{Fits, Apart, Enters, checks, load_checks, Holds, IsSegment, entry_of, header_at, header_count, loaded_at, segment_at, segments_before}
use Rattle.elf_image.specs.Files.{IsElf, elf_file, file_size, first_offset, header_words, headers_bytes, loaded, loads_bytes, loads_words, segments_from}
use Rattle.elf_image.specs.Tables.{NamedLaw, NamedLoadLaw, named_file, named_header, named_of, padding_of, tables_at, tables_bytes}
use Rattle.elf_image.proofs.WrittenLemmas.{fields_are, file_length, head_length, loads_behind, whole}

-- ---- bytes behind others, and before others

pub skip : (front rest : List ℕ) (k : ℕ) → drop (length front + k) (front ++ rest) ≡ drop k rest
skip [] rest k = let e : 0 + k ≡ k = omega arith in rw e refl
skip (x ∷ front) rest k = let e : suc (length front) + k ≡ suc (length front + k) = omega arith in rw e (skip front rest k)

within : (n k : ℕ) (xs ys : List ℕ) → k + n ≤ length xs → take n (drop k (xs ++ ys)) ≡ take n (drop k xs)
within zero k xs ys le = refl
within (suc n) zero [] ys le = absurd (omega arith)
within (suc n) zero (x ∷ xs) ys le = ap (λ bs. x ∷ bs) (within n zero xs ys (omega arith))
within (suc n) (suc k) [] ys le = absurd (omega arith)
within (suc n) (suc k) (x ∷ xs) ys le = within (suc n) k xs ys (omega arith)

grown : (m n : ℕ) (s : Segment) → m ≤ n → IsSegment m s → IsSegment n s
grown m n s le h = record { within = longer h.within; held = h.held; in_space = h.in_space } where
  longer : (s.file_size ≡ 0) ⊎ (s.offset + s.file_size ≤ m) → (s.file_size ≡ 0) ⊎ (s.offset + s.file_size ≤ n)
  longer (inl none) = inl none
  longer (inr fits) = inr (omega (arith, le, fits))

module _ (i : Image) (t : Tables) where
  head : List ℕ
  head = bytes_of_words (header_words i.start (length i.loads))

  other : List ℕ
  other = bytes_of_words (named_header i.start (length i.loads) (tables_at i.loads) (length t.sections))

  -- the program headers and what is loaded
  rest : List ℕ
  rest = bytes_of_words (loads_words (first_offset (length i.loads)) i.loads) ++ loads_bytes i.loads

  tail : List ℕ
  tail = padding_of i.loads ++ tables_bytes (tables_at i.loads) t

  plain : elf_file i ≡ head ++ rest
  unfolding head rest
  plain = refl

  named : named_file i t ≡ other ++ (rest ++ tail)
  unfolding other rest tail named_of
  named =
      let e : named_file i t ≡ other ++ (bytes_of_words (loads_words (first_offset (length i.loads)) i.loads) ++ (loads_bytes i.loads ++ tail)) = refl in
      e ∙ ap (λ bs. other ++ bs) (sym (append_assoc (bytes_of_words (loads_words (first_offset (length i.loads)) i.loads)) (loads_bytes i.loads) tail))

  other_length : length other ≡ 52
  unfolding other named_header
  other_length = refl

  head_is : length head ≡ 52
  unfolding head
  head_is = refl

  rest_length : 52 + length rest ≡ file_size i.loads
  rest_length =
      let e = file_length i in
      let f = ap length plain in
      let g = length-append head rest in
      let h = head_is in
      omega (arith, e, f, g, h)

  longer : length (elf_file i) ≤ length (named_file i t)
  longer =
      let a = ap length plain in
      let b = length-append head rest in
      let c = ap length named in
      let d = length-append other (rest ++ tail) in
      let e = length-append rest tail in
      let f = head_is in
      let g = other_length in
      omega (arith, a, b, c, d, e, f, g)

  -- a word behind the header
  word : (k : ℕ) → k + 4 ≤ length rest → word_in (named_file i t) (52 + k) ≡ word_in (elf_file i) (52 + k)
  word k le =
      let there : drop (52 + k) (named_file i t) ≡ drop k (rest ++ tail) = ap (λ bs. drop (52 + k) bs) named ∙ (ap (λ n. drop (n + k) (other ++ (rest ++ tail))) (sym other_length) ∙ skip other (rest ++ tail) k) in
      let here : drop (52 + k) (elf_file i) ≡ drop k rest = ap (λ bs. drop (52 + k) bs) plain ∙ (ap (λ n. drop (n + k) (head ++ rest)) (sym head_is) ∙ skip head rest k) in
      ap (λ bs. number_of (take 4 bs)) there ∙ (ap number_of (within 4 k rest tail le) ∙ sym (ap (λ bs. number_of (take 4 bs)) here))

  table : header_at (named_file i t) 0 ≡ 52
  unfolding named_of named_header
  table = refl

  -- ---- a program header

  module _ (k : ℕ) (lt : k < length i.loads) where
    place : header_at (named_file i t) k ≡ 52 + 32 * k
    unfolding named_of named_header
    place = refl

    plain_place : header_at (elf_file i) k ≡ 52 + 32 * k
    plain_place = refl

    field : (j : ℕ) → j + 4 ≤ 32 → word_in (named_file i t) (52 + 32 * k + j) ≡ word_in (elf_file i) (52 + 32 * k + j)
    field j le =
        let r = rest_length in
        let at : 52 + 32 * k + j ≡ 52 + (32 * k + j) = omega arith in
        ap (λ (a : ℕ). word_in (named_file i t) a) at ∙ (word (32 * k + j) (omega (arith, r, le, lt)) ∙ ap (λ (a : ℕ). word_in (elf_file i) a) (sym at))

    type_same : word_in (named_file i t) (header_at (named_file i t) k) ≡ word_in (elf_file i) (header_at (elf_file i) k)
    unfolding named_of named_header
    type_same =
        let none : 52 + 32 * k ≡ 52 + 32 * k + 0 = omega arith in
        ap (λ (a : ℕ). word_in (named_file i t) a) none ∙ (field 0 (omega arith) ∙ ap (λ (a : ℕ). word_in (elf_file i) a) (sym none))

    segment_same : segment_at (named_file i t) (header_at (named_file i t) k) ≡ segment_at (elf_file i) (header_at (elf_file i) k)
    unfolding named_of named_header
    segment_same =
        fields_are (segment_at (named_file i t) (52 + 32 * k)) (segment_at (elf_file i) (52 + 32 * k))
        (field 4 (omega arith)) (field 12 (omega arith)) (field 16 (omega arith)) (field 20 (omega arith)) (field 24 (omega arith))

    loaded_same : loaded_at (named_file i t) (header_at (named_file i t) k) ≡ loaded_at (elf_file i) (header_at (elf_file i) k)
    loaded_same = rw (type_same, segment_same) refl

  -- ---- all of them

  before_same : (k : ℕ) → k ≤ length i.loads → segments_before (named_file i t) k ≡ segments_before (elf_file i) k
  before_same zero le = refl
  before_same (suc k) le =
      ap (λ ss. ss ++ loaded_at (named_file i t) (header_at (named_file i t) k)) (before_same k (omega arith))
      ∙ ap (λ ss. segments_before (elf_file i) k ++ ss) (loaded_same k (omega arith))

  fits_same : (k : ℕ) → k < length i.loads → Holds (Fits k) (elf_file i) → Holds (Fits k) (named_file i t)
  fits_same k lt h = λ loads. subst (λ (s : Segment). IsSegment (length (named_file i t)) s) (sym (segment_same k lt))
      (grown (length (elf_file i)) (length (named_file i t)) _ longer (h (sym (type_same k lt) ∙ loads)))

  apart_same : (k : ℕ) → k < length i.loads → Holds (Apart k) (elf_file i) → Holds (Apart k) (named_file i t)
  apart_same k lt h = λ loads. rw (segment_same k lt, before_same k (omega arith)) (h (sym (type_same k lt) ∙ loads))

  loads_same : (k n : ℕ) → k + n ≤ length i.loads
      → AllByRecursion (λ c. Holds c (elf_file i)) (load_checks k n) → AllByRecursion (λ c. Holds c (named_file i t)) (load_checks k n)
  loads_same k zero le h = tt
  loads_same k (suc n) le h = (fits_same k (omega arith) h.0, (apart_same k (omega arith) h.1.0, loads_same (suc k) n (omega arith) h.1.1))

module _ (i : Image) (t : Tables) (is : IsElf i) where
  count : half_in (named_file i t) 0x2C ≡ length i.loads
  unfolding named_of named_header
  count = omega (arith, is.counted)

  entry : word_in (named_file i t) 0x18 ≡ i.start
  unfolding named_of named_header
  entry = number_of-bytes_of i.start 4 is.start_fits

  all_held : AllByRecursion (λ c. Holds c (named_file i t)) (checks (named_file i t))
  unfolding named_of named_header
  all_held =
      let n = file_length i in
      let r = rest_length i t in
      let g = longer i t in
      let c = count in
      let long : 52 ≤ length (named_file i t) = omega (arith, n, r, g) in
      let fits : header_at (named_file i t) (header_count (named_file i t)) ≤ length (named_file i t) = omega (arith, n, r, g, c) in
      let enters : entry_of (named_file i t) % 4 ≡ 2 → ⊥ = λ odd. (let e = entry in let a = is.start_aligned in absurd (omega (arith, odd, e, a))) in
      let held = loads_same i t 0 (length i.loads) (omega arith) (whole i is).held in
      let each = subst (λ (k : ℕ). AllByRecursion (λ c. Holds c (named_file i t)) (load_checks 0 k)) (sym count) held in
      (long, (refl, ((refl, refl), (refl, (refl, (inr refl, (inr fits, all_append (λ c. Holds c (named_file i t)) (load_checks 0 (header_count (named_file i t))) (Enters ∷ []) each (enters, tt))))))))

pub reads : NamedLaw
reads i t is = record {
  checked = all_held i t is;
  entry = sym (entry i t is);
  segments = sym (ap (λ (k : ℕ). segments_before (named_file i t) k) (count i t is) ∙ (before_same i t (length i.loads) (omega arith)
      ∙ (ap (λ (k : ℕ). segments_before (elf_file i) k) (let e : length i.loads ≡ 0 + length i.loads = omega arith in e) ∙ (whole i is).segments)));
}

-- ---- what is loaded

abbrev front : Image → Tables → List ℕ
front i t = bytes_of_words (named_header i.start (length i.loads) (tables_at i.loads) (length t.sections)) ++ headers_bytes (first_offset (length i.loads)) i.loads

abbrev last : Image → Tables → List ℕ
last i t = padding_of i.loads ++ tables_bytes (tables_at i.loads) t

pub front_length : (i : Image) (t : Tables) → first_offset (length i.loads) ≡ length (front i t)
unfolding named_header
front_length i t = sym (head_length i)

front_first : (i : Image) (t : Tables) → named_file i t ≡ front i t ++ (loads_bytes i.loads ++ last i t)
unfolding named_of
front_first i t =
    let head = bytes_of_words (named_header i.start (length i.loads) (tables_at i.loads) (length t.sections)) in
    sym (append_assoc head (headers_bytes (first_offset (length i.loads)) i.loads) (loads_bytes i.loads ++ last i t))

pub loads : NamedLoadLaw
loads i t =
    ap (λ ss. map_of ss) (ap (λ (n : ℕ). map (loaded (named_file i t)) (segments_from n i.loads)) (front_length i t)
    ∙ loads_behind (named_file i t) (front i t) (last i t) i.loads (front_first i t))
