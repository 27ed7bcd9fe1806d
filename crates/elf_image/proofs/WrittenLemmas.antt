-- The file of an image reads as its record, and loads what its load regions are.
use Rattle.std.proofs.Common.{◌≡◌, ℕ, zero, suc, ◌+◌, ◌-◌, ◌*◌, ◌%◌, ◌^◌, ◌<◌, ◌≤◌, inr, List, [], ◌∷◌, ◌++◌, length, map, take, drop, replicate, get_or, slice_index, refl, sym, ap, ◌∙◌, subst, append_assoc, append-nil, arith}
use Rattle.std.specs.List.{AllByRecursion}
use Rattle.std.proofs.lemmas.Bool.{eq-eqb}
use Rattle.std.proofs.lemmas.List.{length-append, get_or-append-add, get_or_append_left}
use Rattle.std.proofs.Math.Seq.{drop-append_seam, take-append_seam}
use Rattle.base_lemmas.proofs.BaseLemmas.{all_append}
use Rattle.sdt_word.specs.Bytes.{half_in, word_in}
use Rattle.sdt_word.proofs.BytesLemmas.{number_of-bytes_of}
use Rattle.chunk_file.specs.Reading.{EachStands}
use Rattle.boot_code.specs.Maps as maps
use Rattle.boot_code.specs.Maps.{bytes_of_words, map_of}
use Rattle.link_model.specs.declared.images.Image.{Image}
use Rattle.link_model.specs.declared.images.LoadRegion.{LoadRegion}
use Rattle.elf_image.specs.declared.records.Segment.{Segment}
use Rattle.elf_image.specs.Checks.{Fits, Apart, Enters, checks, load_checks, Holds, IsApart, IsSegment, header_at, header_count, loaded_at, segment_at, segments_before}
use Rattle.elf_image.specs.Files.{AreApart, IsElf, LoadLaw, WrittenLaw, bytes_in, elf_file, elf_words, file_size, first_offset, header_words, load_of, load_words, loaded, loads_bytes, loads_words, load_segment, segments_from}

-- ---- words in bytes

pub words_length : (ws : List ℕ) → length (bytes_of_words ws) ≡ 4 * length ws
words_length [] = refl
words_length (w ∷ ws) = let e = words_length ws in omega (arith, e)

-- the word of a number is one of the words
pub word_there : (ws rest : List ℕ) (k : ℕ) → k < length ws → get_or ws k 0 < 2 ^ 32 → word_in (bytes_of_words ws ++ rest) (4 * k) ≡ get_or ws k 0
word_there [] rest k lt small = absurd (omega arith)
word_there (w ∷ ws) rest zero lt small = number_of-bytes_of w 4 small
word_there (w ∷ ws) rest (suc k) lt small =
    let at : 4 * suc k ≡ suc (suc (suc (suc (4 * k)))) = omega arith in
    rw at (word_there ws rest k (omega arith) small)

-- and so is one behind others
pub word_behind : (front mid rest more : List ℕ) (j : ℕ) → j < length mid → get_or mid j 0 < 2 ^ 32
    → word_in (bytes_of_words (front ++ (mid ++ rest)) ++ more) (4 * (length front + j)) ≡ get_or mid j 0
word_behind front mid rest more j lt small =
    let is : get_or (front ++ (mid ++ rest)) (length front + j) 0 ≡ get_or mid j 0 = get_or-append-add front (mid ++ rest) j 0 ∙ get_or_append_left mid rest 0 j lt in
    let outer = length-append front (mid ++ rest) in
    let inner = length-append mid rest in
    word_there (front ++ (mid ++ rest)) more (length front + j) (omega (arith, outer, inner, lt)) (omega (arith, is, small)) ∙ is

-- ---- load regions one behind the other

bytes_append : (xs ys : List LoadRegion) → loads_bytes (xs ++ ys) ≡ loads_bytes xs ++ loads_bytes ys
bytes_append [] ys = refl
bytes_append (x ∷ xs) ys = ap (λ bs. x.bytes ++ bs) (bytes_append xs ys) ∙ sym (append_assoc x.bytes (loads_bytes xs) (loads_bytes ys))

further : (offset : ℕ) (x : LoadRegion) (xs : List LoadRegion) → offset + length x.bytes + length (loads_bytes xs) ≡ offset + length (loads_bytes (x ∷ xs))
further offset x xs = let e = length-append x.bytes (loads_bytes xs) in omega (arith, e)

words_append : (offset : ℕ) (xs ys : List LoadRegion) → loads_words offset (xs ++ ys) ≡ loads_words offset xs ++ loads_words (offset + length (loads_bytes xs)) ys
words_append offset [] ys = let e : offset ≡ offset + 0 = omega arith in ap (λ (o : ℕ). loads_words o ys) e
words_append offset (x ∷ xs) ys =
    ap (λ ws. load_words offset x ++ ws) (words_append (offset + length x.bytes) xs ys ∙ ap (λ o. loads_words (offset + length x.bytes) xs ++ loads_words o ys) (further offset x xs))

segments_append : (offset : ℕ) (xs ys : List LoadRegion) → segments_from offset (xs ++ ys) ≡ segments_from offset xs ++ segments_from (offset + length (loads_bytes xs)) ys
segments_append offset [] ys = let e : offset ≡ offset + 0 = omega arith in ap (λ (o : ℕ). segments_from o ys) e
segments_append offset (x ∷ xs) ys =
    ap (λ ss. load_segment offset x ∷ ss) (segments_append (offset + length x.bytes) xs ys ∙ ap (λ o. segments_from (offset + length x.bytes) xs ++ segments_from o ys) (further offset x xs))

headers_length : (offset : ℕ) (ls : List LoadRegion) → length (loads_words offset ls) ≡ 8 * length ls
headers_length offset [] = refl
headers_length offset (l ∷ ls) =
    let e = headers_length (offset + length l.bytes) ls in
    let f = length-append (load_words offset l) (loads_words (offset + length l.bytes) ls) in
    omega (arith, e, f)

apart_segments : (l : LoadRegion) (o offset : ℕ) (before : List LoadRegion) → AllByRecursion (AreApart l) before → AllByRecursion (IsApart (load_segment o l)) (segments_from offset before)
apart_segments l o offset [] h = tt
apart_segments l o offset (x ∷ xs) h = (h.0, apart_segments l o (offset + length x.bytes) xs h.1)

pushed : {A : Type 0} (xs : List A) (y : A) (ys : List A) → (xs ++ y ∷ []) ++ ys ≡ xs ++ y ∷ ys
pushed xs y ys = append_assoc xs (y ∷ []) ys

-- a segment is its five fields
pub fields_are : (s t : Segment) → s.offset ≡ t.offset → s.address ≡ t.address → s.file_size ≡ t.file_size → s.memory_size ≡ t.memory_size → s.flags ≡ t.flags → s ≡ t
fields_are s t o a f m p = let built : Segment = record { offset = s.offset; address = s.address; file_size = s.file_size; memory_size = s.memory_size; flags = s.flags } in
    let e : built ≡ t = rw (o, a, f, m, p) refl in e

-- ---- the header

module _ (i : Image) where
  words_are : length (elf_words i.start i.loads) ≡ 13 + 8 * length i.loads
  words_are =
      let e = headers_length (first_offset (length i.loads)) i.loads in
      let f = length-append (header_words i.start (length i.loads)) (loads_words (first_offset (length i.loads)) i.loads) in
      omega (arith, e, f)

  pub head_length : length (bytes_of_words (elf_words i.start i.loads)) ≡ first_offset (length i.loads)
  head_length =
      let e = words_length (elf_words i.start i.loads) in
      let f = words_are in
      omega (arith, e, f)

  -- how many bytes the file has
  pub file_length : length (elf_file i) ≡ file_size i.loads
  file_length =
      let e = length-append (bytes_of_words (elf_words i.start i.loads)) (loads_bytes i.loads) in
      let f = head_length in
      omega (arith, e, f)

module _ (i : Image) (is : IsElf i) where
  executable : half_in (elf_file i) 0x10 ≡ 2
  executable = refl

  magic : word_in (elf_file i) 0 ≡ 0x464C457F
  magic = refl

  class : (slice_index (elf_file i) 4 ≡ 1) × (slice_index (elf_file i) 5 ≡ 1)
  class = (refl, refl)

  arm : half_in (elf_file i) 0x12 ≡ 40
  arm = refl

  size : half_in (elf_file i) 0x2A ≡ 32
  size = refl

  count : half_in (elf_file i) 0x2C ≡ length i.loads
  count = omega (arith, is.counted)

  table : word_in (elf_file i) 0x1C ≡ 52
  table = refl

  entry : word_in (elf_file i) 0x18 ≡ i.start
  entry = number_of-bytes_of i.start 4 is.start_fits

  -- ---- a program header

  module _ (before : List LoadRegion) (l : LoadRegion) (rest : List LoadRegion) (all : i.loads ≡ before ++ l ∷ rest) (low : l.base < 2 ^ 32) where
    offset : ℕ
    offset = first_offset (length i.loads) + length (loads_bytes before)

    front : List ℕ
    front = header_words i.start (length i.loads) ++ loads_words (first_offset (length i.loads)) before

    front_length : length front ≡ 13 + 8 * length before
    unfolding front
    front_length =
        let e = headers_length (first_offset (length i.loads)) before in
        let f = length-append (header_words i.start (length i.loads)) (loads_words (first_offset (length i.loads)) before) in
        omega (arith, e, f)

    within : offset + length l.bytes ≤ file_size i.loads
    unfolding offset
    within =
        let e = ap (λ ls. length (loads_bytes ls)) all in
        let f = ap length (bytes_append before (l ∷ rest)) in
        let g = length-append (loads_bytes before) (loads_bytes (l ∷ rest)) in
        let h = length-append l.bytes (loads_bytes rest) in
        omega (arith, e, f, g, h)

    words_split : elf_words i.start i.loads ≡ front ++ (load_words offset l ++ loads_words (offset + length l.bytes) rest)
    unfolding front offset
    words_split =
        ap (λ ls. header_words i.start (length i.loads) ++ loads_words (first_offset (length i.loads)) ls) all
        ∙ (ap (λ ws. header_words i.start (length i.loads) ++ ws) (words_append (first_offset (length i.loads)) before (l ∷ rest))
        ∙ sym (append_assoc (header_words i.start (length i.loads)) (loads_words (first_offset (length i.loads)) before) (loads_words (first_offset (length i.loads) + length (loads_bytes before)) (l ∷ rest))))

    word_at : (j : ℕ) → j < 8 → get_or (load_words offset l) j 0 < 2 ^ 32 → word_in (elf_file i) (header_at (elf_file i) (length before) + 4 * j) ≡ get_or (load_words offset l) j 0
    word_at j lt small =
        let t = table in
        let n = front_length in
        let at : header_at (elf_file i) (length before) + 4 * j ≡ 4 * (length front + j) = omega (arith, t, n) in
        ap (λ (a : ℕ). word_in (elf_file i) a) at
        ∙ (ap (λ ws. word_in (bytes_of_words ws ++ loads_bytes i.loads) (4 * (length front + j))) words_split
        ∙ word_behind front (load_words offset l) (loads_words (offset + length l.bytes) rest) (loads_bytes i.loads) j lt small)

    type_word : word_in (elf_file i) (header_at (elf_file i) (length before)) ≡ 1
    type_word =
        let at : header_at (elf_file i) (length before) ≡ header_at (elf_file i) (length before) + 4 * 0 = omega arith in
        ap (λ (a : ℕ). word_in (elf_file i) a) at ∙ word_at 0 (omega arith) (omega arith)

    is_segment : segment_at (elf_file i) (header_at (elf_file i) (length before)) ≡ load_segment offset l
    is_segment =
        let w = within in
        let s = is.sized in
        fields_are (segment_at (elf_file i) (header_at (elf_file i) (length before))) (load_segment offset l)
        (word_at 1 (omega arith) (omega (arith, w, s))) (word_at 3 (omega arith) low) (word_at 4 (omega arith) (omega (arith, w, s))) (word_at 5 (omega arith) (omega (arith, w, s))) (word_at 6 (omega arith) (omega arith))

    fits : l.base + length l.bytes ≤ 2 ^ 32 → IsSegment (length (elf_file i)) (load_segment offset l)
    fits space =
        let w = within in
        let n = file_length i in
        record { within = inr (omega (arith, w, n)); held = omega arith; in_space = space }

    loads_it : loaded_at (elf_file i) (header_at (elf_file i) (length before)) ≡ load_segment offset l ∷ []
    loads_it = rw (eq-eqb (word_in (elf_file i) (header_at (elf_file i) (length before))) 1 type_word) (ap (λ s. s ∷ []) is_segment)

    -- the segments of one more header
    more : segments_before (elf_file i) (length before) ≡ segments_from (first_offset (length i.loads)) before
        → segments_before (elf_file i) (suc (length before)) ≡ segments_from (first_offset (length i.loads)) (before ++ l ∷ [])
    unfolding offset
    more so_far =
        ap (λ ss. ss ++ loaded_at (elf_file i) (header_at (elf_file i) (length before))) so_far
        ∙ (ap (λ ss. segments_from (first_offset (length i.loads)) before ++ ss) loads_it
        ∙ sym (segments_append (first_offset (length i.loads)) before (l ∷ [])))

  -- ---- all of them

  pub record Headers (before rest : List LoadRegion) : Type 0 where
    pub held : AllByRecursion (λ c. Holds c (elf_file i)) (load_checks (length before) (length rest))
    pub segments : segments_before (elf_file i) (length before + length rest) ≡ segments_from (first_offset (length i.loads)) (before ++ rest)

  headers : (before rest : List LoadRegion) → i.loads ≡ before ++ rest
      → segments_before (elf_file i) (length before) ≡ segments_from (first_offset (length i.loads)) before
      → EachStands (λ earlier l. AllByRecursion (AreApart l) earlier) before rest
      → AllByRecursion (λ l. l.base + length l.bytes ≤ 2 ^ 32) rest
      → AllByRecursion (λ l. l.base < 2 ^ 32) rest
      → Headers before rest
  headers before [] all so_far apart space low =
      let none : length before + 0 ≡ length before = omega arith in
      record { held = tt; segments = ap (λ (k : ℕ). segments_before (elf_file i) k) none ∙ (so_far ∙ ap (λ ls. segments_from (first_offset (length i.loads)) ls) (sym (append-nil before))) }
  headers before (l ∷ rest) all so_far apart space low =
      let k = length before in
      let longer : length (before ++ l ∷ []) ≡ suc k = length-append before (l ∷ []) ∙ (let e : k + 1 ≡ suc k = omega arith in e) in
      let o = offset before l rest all low.0 in
      let seg = is_segment before l rest all low.0 in
      let next = headers (before ++ l ∷ []) rest (all ∙ sym (pushed before l rest)) (ap (λ (n : ℕ). segments_before (elf_file i) n) longer ∙ more before l rest all low.0 so_far) apart.1 space.1 low.1 in
      let one : Holds (Fits k) (elf_file i) = λ loads. subst (λ (s : Segment). IsSegment (length (elf_file i)) s) (sym seg) (fits before l rest all low.0 space.0) in
      let two : Holds (Apart k) (elf_file i) = λ loads. rw (seg, so_far) (apart_segments l o (first_offset (length i.loads)) before apart.0) in
      let end : k + suc (length rest) ≡ length (before ++ l ∷ []) + length rest = omega (arith, longer) in
      record {
        held = (one, (two, subst (λ (n : ℕ). AllByRecursion (λ c. Holds c (elf_file i)) (load_checks n (length rest))) longer next.held));
        segments = ap (λ (n : ℕ). segments_before (elf_file i) n) end ∙ (next.segments ∙ ap (λ ls. segments_from (first_offset (length i.loads)) ls) (pushed before l rest));
      }

  pub whole : Headers [] i.loads
  whole = headers [] i.loads refl refl is.apart is.in_space is.bases

  all_held : AllByRecursion (λ c. Holds c (elf_file i)) (checks (elf_file i))
  all_held =
      let n = file_length i in
      let c = count in
      let t = table in
      let long : 52 ≤ length (elf_file i) = omega (arith, n) in
      let fits : header_at (elf_file i) (header_count (elf_file i)) ≤ length (elf_file i) = omega (arith, n, c, t) in
      let enters : word_in (elf_file i) 0x18 % 4 ≡ 2 → ⊥ = λ odd. (let e = entry in let a = is.start_aligned in absurd (omega (arith, odd, e, a))) in
      let each = subst (λ (k : ℕ). AllByRecursion (λ c. Holds c (elf_file i)) (load_checks 0 k)) (sym count) whole.held in
      (long, (magic, (class, (executable, (arm, (inr size, (inr fits, all_append (λ c. Holds c (elf_file i)) (load_checks 0 (header_count (elf_file i))) (Enters ∷ []) each (enters, tt))))))))

pub written : WrittenLaw
written i is = record {
  checked = all_held i is;
  entry = sym (entry i is);
  segments = sym (ap (λ (k : ℕ). segments_before (elf_file i) k) (count i is ∙ (let e : length i.loads ≡ 0 + length i.loads = omega arith in e)) ∙ (whole i is).segments);
}

-- ---- what is loaded

abbrev as_segment : ℕ → List ℕ → maps.Segment
as_segment base bytes = record { base = base; bytes = bytes }

-- with other bytes behind them
pub loads_behind : (b front tail : List ℕ) (ls : List LoadRegion) → b ≡ front ++ (loads_bytes ls ++ tail) → map (loaded b) (segments_from (length front) ls) ≡ map load_of ls
loads_behind b front tail [] e = refl
loads_behind b front tail (l ∷ ls) e =
    let split : b ≡ front ++ (l.bytes ++ (loads_bytes ls ++ tail)) = e ∙ ap (λ bs. front ++ bs) (append_assoc l.bytes (loads_bytes ls) tail) in
    let behind : drop (length front) b ≡ l.bytes ++ (loads_bytes ls ++ tail) = ap (λ bs. drop (length front) bs) split ∙ drop-append_seam front (l.bytes ++ (loads_bytes ls ++ tail)) in
    let taken : take (length l.bytes) (drop (length front) b) ≡ l.bytes = ap (λ bs. take (length l.bytes) bs) behind ∙ take-append_seam l.bytes (loads_bytes ls ++ tail) in
    let none : length l.bytes - length l.bytes ≡ 0 = omega arith in
    let held : bytes_in b (load_segment (length front) l) ≡ l.bytes = ap (λ n. take (length l.bytes) (drop (length front) b) ++ replicate n 0) none ∙ (append-nil (take (length l.bytes) (drop (length front) b)) ∙ taken) in
    let here : loaded b (load_segment (length front) l) ≡ load_of l = ap (λ bs. as_segment l.base bs) held in
    let next = loads_behind b (front ++ l.bytes) tail ls (split ∙ sym (append_assoc front l.bytes (loads_bytes ls ++ tail))) in
    let longer = length-append front l.bytes in
    ap (λ (s : maps.Segment). s ∷ map (loaded b) (segments_from (length front + length l.bytes) ls)) here
    ∙ ap (λ ss. load_of l ∷ ss) (ap (λ (n : ℕ). map (loaded b) (segments_from n ls)) (sym longer) ∙ next)

pub loads : LoadLaw
loads i =
    let start : first_offset (length i.loads) ≡ length (bytes_of_words (elf_words i.start i.loads)) = sym (head_length i) in
    ap (λ ss. map_of ss) (ap (λ (n : ℕ). map (loaded (elf_file i)) (segments_from n i.loads)) start ∙ loads_behind (elf_file i) (bytes_of_words (elf_words i.start i.loads)) [] i.loads (ap (λ bs. bytes_of_words (elf_words i.start i.loads) ++ bs) (sym (append-nil (loads_bytes i.loads)))))
