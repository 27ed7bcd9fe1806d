-- The file of an image reads as its record.
use Rattle.std.proofs.Common.{◌≡◌, ℕ, zero, suc, ◌-◌, ◌*◌, ◌%◌, ◌^◌, ◌<◌, ◌≤◌, ◌⊎◌, inl, inr, Bool, true, false, List, [], ◌∷◌, ◌++◌, length, drop, get_or, refl, sym, ap, ◌∙◌, subst, append_assoc, arith}
use Rattle.std.specs.Prelude.{◌↔◌, IsTrue, if◌then◌else◌}
use Rattle.std.proofs.lemmas.List.{length-drop, length-append}
use Rattle.sdt_word.specs.Bytes.{word_in}
use Rattle.sdt_word.proofs.BytesLemmas.{number_of-bytes_of}
use Rattle.boot_code.specs.Maps.{bytes_of_words}
use Rattle.link_model.specs.declared.images.Image.{Image}
use Rattle.aif_image.specs.Checks.{Check, Long, Plain, Relocates, Enters, Sized, Mode32, HasSizes, Holds, IsCall, IsNop}
use Rattle.aif_image.specs.Files.{IsAif, WrittenLaw, aif_file, call_from, can_move, first_words, header_words, loaded, mover_bytes, parts_size, ro_size, rw_size, zero_size}

-- ---- words in bytes

words_length : (ws : List ℕ) → length (bytes_of_words ws) ≡ 4 * length ws
words_length [] = refl
words_length (w ∷ ws) = let e = words_length ws in omega (arith, e)

-- the word of a number is one of the words
word_there : (ws rest : List ℕ) (k : ℕ) → k < length ws → get_or ws k 0 < 2 ^ 32 → word_in (bytes_of_words ws ++ rest) (4 * k) ≡ get_or ws k 0
word_there [] rest k lt small = absurd (omega arith)
word_there (w ∷ ws) rest zero lt small = number_of-bytes_of w 4 small
word_there (w ∷ ws) rest (suc k) lt small =
    let at : 4 * suc k ≡ suc (suc (suc (suc (4 * k)))) = omega arith in
    rw at (word_there ws rest k (omega arith) small)

with_more : (header parts more : List ℕ) (n : ℕ) → length header ≡ 0x80 → length parts ≡ n - 0x80 → n ≤ length (header ++ (parts ++ more))
with_more header parts more n h p =
    let all = length-append header (parts ++ more) in
    let behind = length-append parts more in
    omega (arith, all, behind, h, p)

-- ---- the header's words

module _ (i : Image) (is : IsAif i) where
  rest : List ℕ
  rest = drop 0x80 (loaded i.loads) ++ (if can_move i.kind then mover_bytes i.moves else [])

  split : aif_file i ≡ bytes_of_words (header_words i) ++ rest
  unfolding rest
  split = append_assoc (bytes_of_words (header_words i)) (drop 0x80 (loaded i.loads)) (if can_move i.kind then mover_bytes i.moves else [])

  word_at : (k : ℕ) → k < 32 → get_or (header_words i) k 0 < 2 ^ 32 → word_in (aif_file i) (4 * k) ≡ get_or (header_words i) k 0
  word_at k lt small = ap (λ (b : List ℕ). word_in b (4 * k)) split ∙ word_there (header_words i) rest k lt small

  moves_small : (m : Bool) → get_or (first_words m i.regions i.start i.call) 1 0 < 2 ^ 32
  moves_small true = omega (arith, is.parts)
  moves_small false = omega arith

  nop_word : word_in (aif_file i) 0 ≡ 0xE1A00000
  nop_word = word_at 0 (omega arith) (omega arith)

  mover_word : word_in (aif_file i) 4 ≡ (if can_move i.kind then call_from 4 (parts_size i.regions) else 0xE1A00000)
  mover_word = word_at 1 (omega arith) (moves_small (can_move i.kind))

  entry_word : word_in (aif_file i) 0xC ≡ call_from 0xC (i.call - i.start)
  entry_word = word_at 3 (omega arith) (omega (arith, is.call))

  ro_word : word_in (aif_file i) 0x14 ≡ ro_size i.regions
  ro_word = word_at 5 (omega arith) (omega (arith, is.parts))

  rw_word : word_in (aif_file i) 0x18 ≡ rw_size i.regions
  rw_word = word_at 6 (omega arith) (omega (arith, is.parts))

  zero_word : word_in (aif_file i) 0x20 ≡ zero_size i.regions
  zero_word = word_at 8 (omega arith) is.zeros

  base_word : word_in (aif_file i) 0x28 ≡ i.start
  base_word = word_at 10 (omega arith) is.base

  mode_word : word_in (aif_file i) 0x30 ≡ 32
  mode_word = word_at 12 (omega arith) (omega arith)

  -- ---- what they say

  nop_or_call : (m : Bool) → IsNop (if m then call_from 4 (parts_size i.regions) else 0xE1A00000) ⊎ IsCall (if m then call_from 4 (parts_size i.regions) else 0xE1A00000)
  nop_or_call true = inr (omega (arith, is.parts))
  nop_or_call false = inl refl

  calls : (m : Bool) → IsTrue m ↔ IsCall (if m then call_from 4 (parts_size i.regions) else 0xE1A00000)
  calls true = (λ t. omega (arith, is.parts), λ c. refl)
  calls false = (λ t. absurd (let bad : false ≡ true = t in cc), λ c. absurd (omega (arith, c)))

  header_length : length (bytes_of_words (header_words i)) ≡ 128
  header_length = words_length (header_words i)

  file_length : parts_size i.regions ≤ length (aif_file i)
  unfolding rest
  file_length =
      subst (λ (f : List ℕ). parts_size i.regions ≤ length f) (sym split)
      (with_more (bytes_of_words (header_words i)) (drop 0x80 (loaded i.loads)) (if can_move i.kind then mover_bytes i.moves else []) (parts_size i.regions)
      header_length (length-drop 0x80 (loaded i.loads) ∙ ap (λ n. n - 0x80) is.loads))

  sizes : HasSizes (aif_file i)
  sizes = record {
    ro_whole = ap (λ n. n % 4) ro_word ∙ is.ro_whole;
    rw_whole = ap (λ n. n % 4) rw_word ∙ is.rw_whole;
    zero_whole = ap (λ n. n % 4) zero_word ∙ is.zero_whole;
    header = omega (arith, ro_word, is.header);
    within = omega (arith, ro_word, rw_word, file_length);
  }

  holds : (c : Check) → Holds c (aif_file i)
  holds Long = let n = file_length in omega (arith, n, is.header)
  holds Plain = nop_word
  holds Relocates = subst (λ w. IsNop w ⊎ IsCall w) (sym mover_word) (nop_or_call (can_move i.kind))
  holds Enters = subst IsCall (sym entry_word) (omega (arith, is.call))
  holds Sized = sizes
  holds Mode32 = ap (λ n. n % 256) mode_word

pub written : WrittenLaw
written i is = record {
  checked = holds i is;
  ro = sym (ro_word i is);
  rw = sym (rw_word i is);
  zero = sym (zero_word i is);
  base = sym (base_word i is);
  relocatable = subst (λ w. IsTrue (can_move i.kind) ↔ IsCall w) (sym (mover_word i is)) (calls i is (can_move i.kind));
}
