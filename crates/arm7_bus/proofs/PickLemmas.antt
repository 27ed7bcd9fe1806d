-- The places at which a number has a 1, how many there are, and the bytes of words at them.
use Rattle.std.proofs.Common.{◌≡◌, ℕ, zero, suc, ◌+◌, ◌-◌, ◌*◌, ◌/◌, ◌%◌, ◌^◌, ◌<◌, ◌≤◌, List, [], ◌∷◌, ◌++◌, length, take, drop, append_assoc, length-take-le, refl, sym, ap, ◌∙◌, arith}
use Rattle.std.specs.Prelude.{count_ones, slice_index}
use Rattle.std.specs.Int.Count.{ones_step}
use Rattle.std.proofs.lemmas.Nat.{mod-pow-add, ones_le_self}
use Rattle.std.proofs.Math.Nat.{div-div-eq-div-mul, pow-suc}
use Rattle.std.proofs.Math.Seq.{drop-append-add, take-append_seam}
use Rattle.std.proofs.lemmas.List.{drop-drop, length-append}
use Rattle.sdt_word.specs.Bytes.{bytes_of, written}
use Rattle.sdt_word.proofs.BytesLemmas.{length-bytes_of}
use Rattle.sdt_word.specs.Numbers.{bit, kept, places_from, registers}
use Rattle.arm7_model.specs.Accesses.{next_word}
use Rattle.arm7_bus.specs.Picks.{picked_bytes, word_places}

-- the places, where the number's digits below the first one are dropped
abbrev pub spread : ℕ → ℕ → ℕ → List ℕ
spread k zero r = []
spread k (suc n) r = kept (r % 2) k (spread (suc k) n (r / 2))

halved : (v k : ℕ) → v / 2 ^ suc k ≡ v / 2 ^ k / 2
halved v k = ap (λ (x : ℕ). v / x) (pow-suc 2 k) ∙ sym (div-div-eq-div-mul v (2 ^ k) 2)

pub as_spread : (k n v : ℕ) → places_from k n v ≡ spread k n (v / 2 ^ k)
as_spread k zero v = refl
as_spread k (suc n) v = ap (kept (bit v k) k) (as_spread (suc k) n v ∙ ap (spread (suc k) n) (halved v k))

-- how many there are
kept_count : (d k x : ℕ) (ks : List ℕ) → d < 2 → length ks ≡ x → length (kept d k ks) ≡ d + x
kept_count zero k x ks lt e = omega arith
kept_count (suc d) k x ks lt e = omega arith

counted : (n k r : ℕ) → r < 2 ^ n → length (spread k n r) ≡ count_ones r
counted zero k r fits = omega (arith, ones_le_self r)
counted (suc n) k r fits =
    kept_count (r % 2) k (count_ones (r / 2)) (spread (suc k) n (r / 2)) (omega arith) (counted n (suc k) (r / 2) (omega (arith, pow-suc 2 n))) ∙ sym (ones_step r)

-- the digits above them don't count
low : (n k r : ℕ) → spread k n (r % 2 ^ n) ≡ spread k n r
low zero k r = refl
low (suc n) k r =
    let more : suc n ≡ n + 1 = omega arith in
    let split : r % 2 ^ suc n ≡ (r / 2 % 2 ^ n) * 2 + r % 2 = ap (λ (j : ℕ). r % 2 ^ j) more ∙ mod-pow-add r n 1 in
    let odd : r % 2 ^ suc n % 2 ≡ r % 2 = omega (arith, split) in
    let half : r % 2 ^ suc n / 2 ≡ r / 2 % 2 ^ n = omega (arith, split) in
    rw (odd, half, low n (suc k) (r / 2)) refl

whole : (v : ℕ) → registers 16 v ≡ spread 0 16 v
whole v = let same : v / 2 ^ 0 ≡ v = omega arith in as_spread 0 16 v ∙ ap (spread 0 16) same

-- ---- a list of registers

pub count_picked : (v : ℕ) → v < 65536 → length (registers 16 v) ≡ count_ones v
count_picked v fits = ap length (whole v) ∙ counted 16 0 v fits

pub low_picked : (v : ℕ) → registers 16 (v % 65536) ≡ registers 16 v
low_picked v = whole (v % 65536) ∙ low 16 0 v ∙ sym (whole v)

-- ---- bytes that are written one after the other

written_over : (front rest bs : List ℕ) (n : ℕ) → n ≡ length front → take n (front ++ rest) ++ (bs ++ drop (n + length bs) (front ++ rest)) ≡ front ++ (bs ++ drop (length bs) rest)
written_over front rest bs n e = rw (e, take-append_seam front rest, drop-append-add front rest (length bs)) refl

pub written_more : (xs cs bs : List ℕ) (at : ℕ) → at ≤ length xs → written (written xs at cs) (at + length cs) bs ≡ written xs at (cs ++ bs)
written_more xs cs bs at le =
    let size : at + length cs ≡ length (take at xs ++ cs) = omega (arith, length-append (take at xs) cs, length-take-le at xs le) in
    let both : at + length cs + length bs ≡ at + length (cs ++ bs) = omega (arith, length-append cs bs) in
    ap (λ (ys : List ℕ). written ys (at + length cs) bs) (sym (append_assoc (take at xs) cs (drop (at + length cs) xs)))
    ∙ written_over (take at xs ++ cs) (drop (at + length cs) xs) bs (at + length cs) size
    ∙ append_assoc (take at xs) cs (bs ++ drop (length bs) (drop (at + length cs) xs))
    ∙ ap (λ (ys : List ℕ). take at xs ++ ys) (sym (append_assoc cs bs (drop (length bs) (drop (at + length cs) xs))))
    ∙ ap (λ (ys : List ℕ). take at xs ++ ((cs ++ bs) ++ ys)) (drop-drop (length bs) (at + length cs) xs ∙ ap (λ (n : ℕ). drop n xs) both)

pub picked_length : (words ks : List ℕ) → length (picked_bytes words ks) ≡ 4 * length ks
picked_length words [] = refl
picked_length words (k ∷ ks) =
    omega (arith, length-append (bytes_of (slice_index words k) 4) (picked_bytes words ks), picked_length words ks, length-bytes_of (slice_index words k) 4)

-- ---- words that are noted one after the other

pub noted_first : (before here : List (ℕ × ℕ)) (f : ℕ → List (ℕ × ℕ)) (at a b n : ℕ) → (n ≡ 0 → ⊥) → b ≡ next_word a → here ≡ before ++ (a, 4) ∷ [] → f (at + 1 + (n - 1)) ≡ here ++ word_places b (n - 1)
    → f (at + n) ≡ before ++ word_places a n
noted_first before here f at a b zero some e g h = absurd (some refl)
noted_first before here f at a b (suc n) some e g h =
    let less : suc n - 1 ≡ n = omega arith in
    let end : at + suc n ≡ at + 1 + (suc n - 1) = omega arith in
    ap f end ∙ h ∙ ap (λ (x : List (ℕ × ℕ)). x ++ word_places b (suc n - 1)) g ∙ rw (e, less) (append_assoc before ((a, 4) ∷ []) (word_places (next_word a) n))
