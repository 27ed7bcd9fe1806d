-- The places at which a number has a 1, in four parts one after the other.
use Rattle.std.proofs.Common.{◌≡◌, ℕ, zero, suc, ◌+◌, ◌*◌, ◌/◌, ◌%◌, ◌^◌, ◌≤◌, ◌<◌, Bool, true, false, List, [], ◌∷◌, ◌++◌, length, append_assoc, length-append, refl, sym, ap, ◌∙◌, arith}
use Rattle.std.specs.Prelude.{slice_index}
use Rattle.sdt_word.specs.Bytes.{bytes_of, written}
use Rattle.sdt_word.specs.Numbers.{bit, bits, flag, kept, places_from}
use Rattle.arm7_bus.specs.Picks.{four_from, picked_bytes}
use Rattle.arm7_bus.proofs.PickLemmas.{as_spread, picked_length, spread, written_more}
use Rattle.arm7_bus.proofs.WriteLemmas.{none_written}

-- ---- one place

flag_one : (b : Bool) (d : ℕ) → flag b ≡ d → b ≡ true → d ≡ 1
flag_one b d e t = sym e ∙ ap flag t

flag_none : (b : Bool) (d : ℕ) → flag b ≡ d → b ≡ false → d ≡ 0
flag_none b d e t = sym e ∙ ap flag t

pub one_there : (v k : ℕ) (b : Bool) → flag b ≡ bit v k → b ≡ true → places_from k 1 v ≡ k ∷ []
one_there v k b e t = ap (λ (d : ℕ). kept d k []) (flag_one b (bit v k) e t)

pub one_absent : (v k : ℕ) (b : Bool) → flag b ≡ bit v k → b ≡ false → places_from k 1 v ≡ []
one_absent v k b e t = ap (λ (d : ℕ). kept d k []) (flag_none b (bit v k) e t)

-- ---- four places

none_of : (k r : ℕ) → r % 16 ≡ 0 → spread k 4 r ≡ []
none_of k r e =
    let a : r % 2 ≡ 0 = omega arith in
    let b : r / 2 % 2 ≡ 0 = omega arith in
    let c : r / 2 / 2 % 2 ≡ 0 = omega arith in
    let d : r / 2 / 2 / 2 % 2 ≡ 0 = omega arith in
    rw (a, b, c, d) refl

all_of : (k r : ℕ) → r % 16 ≡ 15 → spread k 4 r ≡ k ∷ suc k ∷ suc (suc k) ∷ suc (suc (suc k)) ∷ []
all_of k r e =
    let a : r % 2 ≡ 1 = omega arith in
    let b : r / 2 % 2 ≡ 1 = omega arith in
    let c : r / 2 / 2 % 2 ≡ 1 = omega arith in
    let d : r / 2 / 2 / 2 % 2 ≡ 1 = omega arith in
    rw (a, b, c, d) refl

pub four_absent : (v k : ℕ) → bits v k 4 ≡ 0 → places_from k 4 v ≡ []
four_absent v k e = as_spread k 4 v ∙ none_of k (v / 2 ^ k) e

-- a byte lists no place from 8 on
pub byte_lists : (v : ℕ) → v < 256 → (places_from 8 4 v ≡ []) × (places_from 12 4 v ≡ [])
byte_lists v lt = (four_absent v 8 (omega arith), four_absent v 12 (omega arith))

pub four_there : (v k : ℕ) → bits v k 4 ≡ 15 → places_from k 4 v ≡ four_from k
four_there v k e =
    let one : suc k ≡ k + 1 = omega arith in
    let two : suc (suc k) ≡ k + 2 = omega arith in
    let three : suc (suc (suc k)) ≡ k + 3 = omega arith in
    as_spread k 4 v ∙ all_of k (v / 2 ^ k) e ∙ ap (λ (j : ℕ). k ∷ j ∷ suc (suc k) ∷ suc (suc (suc k)) ∷ []) one
    ∙ ap (λ (j : ℕ). k ∷ (k + 1) ∷ j ∷ suc (suc (suc k)) ∷ []) two ∙ ap (λ (j : ℕ). k ∷ (k + 1) ∷ (k + 2) ∷ j ∷ []) three

-- ---- two parts

kept_append : (b k : ℕ) (ks ls : List ℕ) → kept b k (ks ++ ls) ≡ kept b k ks ++ ls
kept_append zero k ks ls = refl
kept_append (suc b) k ks ls = refl

parted : (k j m n total v : ℕ) → j ≡ k + m → total ≡ m + n → places_from k total v ≡ places_from k m v ++ places_from j n v
parted k j zero n total v e f =
    let same : k ≡ j = omega arith in
    let all : total ≡ n = omega arith in
    ap (λ (i : ℕ). places_from k i v) all ∙ ap (λ (i : ℕ). places_from i n v) same
parted k j (suc m) n zero v e f = absurd (omega arith)
parted k j (suc m) n (suc total) v e f =
    ap (kept (bit v k) k) (parted (suc k) j m n total v (omega arith) (omega arith)) ∙ kept_append (bit v k) k (places_from (suc k) m v) (places_from j n v)

pub parts : (k j m n v : ℕ) → j ≡ k + m → places_from k (m + n) v ≡ places_from k m v ++ places_from j n v
parts k j m n v e = parted k j m n (m + n) v e refl

-- ---- four parts

pub four_parts : (k k1 k2 k3 m v : ℕ) → k1 ≡ k + m → k2 ≡ k1 + m → k3 ≡ k2 + m
    → places_from k (m + (m + (m + m))) v ≡ places_from k m v ++ (places_from k1 m v ++ (places_from k2 m v ++ places_from k3 m v))
four_parts k k1 k2 k3 m v e f g =
    parts k k1 m (m + (m + m)) v e
    ∙ ap (λ (ks : List ℕ). places_from k m v ++ ks) (parts k1 k2 m (m + m) v f ∙ ap (λ (ks : List ℕ). places_from k1 m v ++ ks) (parts k2 k3 m m v g))

pub four_count : (k k1 k2 k3 m v : ℕ) → k1 ≡ k + m → k2 ≡ k1 + m → k3 ≡ k2 + m
    → length (places_from k (m + (m + (m + m))) v) ≡ length (places_from k m v) + (length (places_from k1 m v) + (length (places_from k2 m v) + length (places_from k3 m v)))
four_count k k1 k2 k3 m v e f g =
    let a = places_from k m v in
    let b = places_from k1 m v in
    let c = places_from k2 m v in
    let d = places_from k3 m v in
    ap length (four_parts k k1 k2 k3 m v e f g)
    ∙ omega (arith, length-append a (b ++ (c ++ d)), length-append b (c ++ d), length-append c d)

-- ---- bytes of words

picked_append : (words ks ls : List ℕ) → picked_bytes words (ks ++ ls) ≡ picked_bytes words ks ++ picked_bytes words ls
picked_append words [] ls = refl
picked_append words (k ∷ ks) ls =
    ap (λ (bs : List ℕ). bytes_of (slice_index words k) 4 ++ bs) (picked_append words ks ls)
    ∙ sym (append_assoc (bytes_of (slice_index words k) 4) (picked_bytes words ks) (picked_bytes words ls))

pub both_written : (words old mid new ks ls : List ℕ) (at next : ℕ) → at ≤ length old → next ≡ at + 4 * length ks
    → mid ≡ written old at (picked_bytes words ks) → new ≡ written mid next (picked_bytes words ls) → new ≡ written old at (picked_bytes words (ks ++ ls))
both_written words old mid new ks ls at next le e f g =
    let place : next ≡ at + length (picked_bytes words ks) = omega (arith, picked_length words ks) in
    g ∙ ap (λ (ys : List ℕ). written ys next (picked_bytes words ls)) f
    ∙ ap (λ (n : ℕ). written (written old at (picked_bytes words ks)) n (picked_bytes words ls)) place
    ∙ written_more old (picked_bytes words ks) (picked_bytes words ls) at le
    ∙ ap (written old at) (sym (picked_append words ks ls))

pub four_written : (words old one two three new a b c d : List ℕ) (at at1 at2 at3 : ℕ) → at ≤ length old → at1 ≤ length one → at2 ≤ length two
    → at1 ≡ at + 4 * length a → at2 ≡ at1 + 4 * length b → at3 ≡ at2 + 4 * length c
    → one ≡ written old at (picked_bytes words a) → two ≡ written one at1 (picked_bytes words b) → three ≡ written two at2 (picked_bytes words c)
    → new ≡ written three at3 (picked_bytes words d) → new ≡ written old at (picked_bytes words (a ++ (b ++ (c ++ d))))
four_written words old one two three new a b c d at at1 at2 at3 le le1 le2 p q r e f g h =
    both_written words old one new a (b ++ (c ++ d)) at at1 le p e (both_written words one two new b (c ++ d) at1 at2 le1 q f (both_written words two three new c d at2 at3 le2 r g h))

pub four_picked : (words old one two three new : List ℕ) (k k1 k2 k3 m v at at1 at2 at3 : ℕ) → k1 ≡ k + m → k2 ≡ k1 + m → k3 ≡ k2 + m
    → at + 4 * length (places_from k (m + (m + (m + m))) v) ≤ length old → length one ≡ length old → length two ≡ length one
    → at1 ≡ at + 4 * length (places_from k m v) → at2 ≡ at1 + 4 * length (places_from k1 m v) → at3 ≡ at2 + 4 * length (places_from k2 m v)
    → one ≡ written old at (picked_bytes words (places_from k m v)) → two ≡ written one at1 (picked_bytes words (places_from k1 m v))
    → three ≡ written two at2 (picked_bytes words (places_from k2 m v)) → new ≡ written three at3 (picked_bytes words (places_from k3 m v))
    → new ≡ written old at (picked_bytes words (places_from k (m + (m + (m + m))) v))
four_picked words old one two three new k k1 k2 k3 m v at at1 at2 at3 i j l le s t p q r e f g h =
    let count = four_count k k1 k2 k3 m v i j l in
    four_written words old one two three new (places_from k m v) (places_from k1 m v) (places_from k2 m v) (places_from k3 m v) at at1 at2 at3
    (omega arith) (omega arith) (omega arith) p q r e f g h
    ∙ ap (λ (ks : List ℕ). written old at (picked_bytes words ks)) (sym (four_parts k k1 k2 k3 m v i j l))

pub four_behind : (k k1 k2 k3 m v at at1 at2 at3 end : ℕ) → k1 ≡ k + m → k2 ≡ k1 + m → k3 ≡ k2 + m
    → at1 ≡ at + 4 * length (places_from k m v) → at2 ≡ at1 + 4 * length (places_from k1 m v) → at3 ≡ at2 + 4 * length (places_from k2 m v)
    → end ≡ at3 + 4 * length (places_from k3 m v) → end ≡ at + 4 * length (places_from k (m + (m + (m + m))) v)
four_behind k k1 k2 k3 m v at at1 at2 at3 end i j l p q r s = let count = four_count k k1 k2 k3 m v i j l in omega arith

-- four parts of which the last two are empty
pub two_picked : (words old one new : List ℕ) (v at at1 at2 : ℕ) → v < 256 → at + 4 * length (places_from 0 16 v) ≤ length old → length one ≡ length old → length new ≡ length one
    → at1 ≡ at + 4 * length (places_from 0 4 v) → at2 ≡ at1 + 4 * length (places_from 4 4 v)
    → one ≡ written old at (picked_bytes words (places_from 0 4 v)) → new ≡ written one at1 (picked_bytes words (places_from 4 4 v)) → new ≡ written old at (picked_bytes words (places_from 0 16 v))
two_picked words old one new v at at1 at2 lt le s t p q e f =
    let none = byte_lists v lt in
    let here = λ (ks : List ℕ) (is : ks ≡ []). sym (none_written new at2) ∙ ap (λ (js : List ℕ). written new at2 (picked_bytes words js)) (sym is) in
    four_picked words old one new new new 0 4 8 12 4 v at at1 at2 at2 refl refl refl le s t p q (omega (arith, ap length none.0)) e f (here (places_from 8 4 v) none.0) (here (places_from 12 4 v) none.1)
