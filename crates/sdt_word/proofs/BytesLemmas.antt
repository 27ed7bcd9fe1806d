-- Bytes and numbers, lowest byte first: each is what the other gives, their lengths and bounds, and
-- that byteorder's words are these.
use Rattle.std.proofs.Common.{◌≡◌, ℕ, zero, suc, ◌+◌, ◌-◌, ◌*◌, ◌/◌, ◌%◌, ◌^◌, ◌<◌, ◌≤◌, List, [], ◌∷◌, ◌++◌, length, take, drop, get_or, refl, sym, ap, ◌∙◌, arith, drop-drop, drop_of_length-le, length-append, length-drop, length-take-le, append-nil, mod-lt, div-one, pow-suc}
use Rattle.std.proofs.Math.Nat.{div-div-eq-div-mul}
use Rattle.std.proofs.Math.Seq.{drop-append_seam, take-append_seam}
use Rattle.std.proofs.lemmas.List.{take_rest}
use Rattle.std.specs.Int.{byte_at, bytes_low_first}
use Rattle.byteorder.specs.Endian.{little_bytes, little_from, little_number}
use Rattle.byteorder.specs.Numbers.{little_from-cons}
use borrow.Rule.Slice.PartMut.{mid_of, put_mid}
use Rattle.sdt_word.specs.Bytes.{bytes_of, half, half_in, load, number_of, word, word_in, written}

-- ---- bytes of a number
pub length-bytes_of : (v k : ℕ) → length (bytes_of v k) ≡ k
length-bytes_of v zero = refl
length-bytes_of v (suc k) = let e = length-bytes_of (v / 256) k in omega (arith, e)

-- what v has above a byte is below 256^k where v is below 256^(k + 1)
above-byte : (v k : ℕ) → v < 256 ^ suc k → v / 256 < 256 ^ k
above-byte v k h = let e = pow-suc 256 k in omega arith

pub number_of-bytes_of : (v k : ℕ) → v < 256 ^ k → number_of (bytes_of v k) ≡ v
number_of-bytes_of v zero h = omega arith
number_of-bytes_of v (suc k) h =
    let rest = number_of-bytes_of (v / 256) k (above-byte v k h) in
    rw rest (omega arith)

-- each is a byte
pub get_or-bytes_of-lt : (v k i : ℕ) → get_or (bytes_of v k) i 0 < 256
get_or-bytes_of-lt v zero i = omega arith
get_or-bytes_of-lt v (suc k) zero = mod-lt v (omega arith)
get_or-bytes_of-lt v (suc k) (suc i) = get_or-bytes_of-lt (v / 256) k i

-- ---- numbers of bytes
pub number_of-lt : (bs : List ℕ) → ((i : ℕ) → get_or bs i 0 < 256) → number_of bs < 256 ^ length bs
number_of-lt [] h = omega arith
number_of-lt (b ∷ bs) h =
    let rest = number_of-lt bs (λ i. h (suc i)) in
    let first : b < 256 = h 0 in
    let e = pow-suc 256 (length bs) in
    rw e (omega arith)

pub bytes_of-number_of : (bs : List ℕ) → ((i : ℕ) → get_or bs i 0 < 256) → bytes_of (number_of bs) (length bs) ≡ bs
bytes_of-number_of [] h = refl
bytes_of-number_of (b ∷ bs) h =
    let rest = bytes_of-number_of bs (λ i. h (suc i)) in
    let first : b < 256 = h 0 in
    let low : (b + 256 * number_of bs) % 256 ≡ b = omega arith in
    let high : (b + 256 * number_of bs) / 256 ≡ number_of bs = omega arith in
    rw (low, high, rest) refl

pub number_of-append : (front back : List ℕ) → number_of (front ++ back) ≡ number_of front + 256 ^ length front * number_of back
number_of-append [] back = omega arith
number_of-append (b ∷ front) back =
    let rest = number_of-append front back in
    let e = pow-suc 256 (length front) in
    rw (rest, e) (omega arith)

-- ---- a map's bytes
pub length-load : (m : ℕ → ℕ) (a n : ℕ) → length (load m a n) ≡ n
length-load m a zero = refl
length-load m a (suc n) = let e = length-load m (suc a) n in omega (arith, e)

pub get_or-load : (m : ℕ → ℕ) (a n i : ℕ) → i < n → get_or (load m a n) i 0 ≡ m (a + i)
get_or-load m a zero i h = absurd (omega arith)
get_or-load m a (suc n) zero h = ap m (omega arith)
get_or-load m a (suc n) (suc i) h = get_or-load m (suc a) n i (omega arith) ∙ ap m (omega arith)

-- ---- byteorder's words
byte_at-pow : (k x : ℕ) → byte_at k x ≡ x / 256 ^ k % 256
byte_at-pow zero x = ap (λ (y : ℕ). y % 256) (sym (div-one x))
byte_at-pow (suc k) x = refl

low_first-bytes_of : (j k x : ℕ) → bytes_low_first j k x ≡ bytes_of (x / 256 ^ j) k
low_first-bytes_of j zero x = refl
low_first-bytes_of j (suc k) x =
    let rest = low_first-bytes_of (suc j) k x in
    let moved : x / 256 ^ suc j ≡ x / 256 ^ j / 256 = ap (λ (p : ℕ). x / p) (pow-suc 256 j) ∙ sym (div-div-eq-div-mul x (256 ^ j) 256) in
    rw (byte_at-pow j x, rest, moved) refl

pub little_bytes-bytes_of : (k x : ℕ) → little_bytes k x ≡ bytes_of x k
little_bytes-bytes_of k x = low_first-bytes_of 0 k x ∙ ap (λ (y : ℕ). bytes_of y k) (div-one x)

little_from-nil : (i n : ℕ) → little_from i n [] ≡ 0
little_from-nil i zero = refl
little_from-nil i (suc n) = let rest = little_from-nil (suc i) n in omega (arith, rest)

pub little_number-number_of : (n : ℕ) (xs : List ℕ) → little_number n xs ≡ number_of (take n xs)
little_number-number_of zero xs = refl
little_number-number_of (suc n) [] = little_from-nil 0 (suc n)
little_number-number_of (suc n) (x ∷ xs) =
    ap (λ (r : ℕ). x + 256 * r) (little_from-cons 0 n x xs ∙ little_number-number_of n xs)

-- ---- writing
pub put_mid-written : (xs new : List ℕ) (a n : ℕ) → length new ≡ n → put_mid a (length xs - a) xs (new ++ drop n (mid_of a (length xs - a) xs)) ≡ written xs a new
put_mid-written xs new a n e =
    let part : mid_of a (length xs - a) xs ≡ drop a xs = take_rest xs a in
    let after : drop (length xs - a) (drop a xs) ≡ [] = drop_of_length-le (drop a xs) (omega (arith, length-drop a xs)) in
    let joined = drop-drop n a xs in
    rw (part, after, append-nil, joined, e) refl

-- what is written is what stands there, and the length stays
drop-written : (xs new : List ℕ) (a : ℕ) → a ≤ length xs → drop a (written xs a new) ≡ new ++ drop (a + length new) xs
drop-written xs new a h =
    let front : length (take a xs) ≡ a = length-take-le a xs h in
    let seam = drop-append_seam (take a xs) (new ++ drop (a + length new) xs) in
    rw front at seam

pub part-written : (xs new : List ℕ) (a : ℕ) → a ≤ length xs → take (length new) (drop a (written xs a new)) ≡ new
part-written xs new a h =
    ap (take (length new)) (drop-written xs new a h) ∙ take-append_seam new (drop (a + length new) xs)

pub length-written : (xs new : List ℕ) (a : ℕ) → a + length new ≤ length xs → length (written xs a new) ≡ length xs
length-written xs new a h =
    let outer = length-append (take a xs) (new ++ drop (a + length new) xs) in
    let inner = length-append new (drop (a + length new) xs) in
    omega (arith, outer, inner, length-take-le a xs (omega arith), length-drop (a + length new) xs)

-- a number written is the number read there
pub word_in-written : (xs : List ℕ) (a v : ℕ) → a ≤ length xs → v < 2 ^ 32 → word_in (written xs a (bytes_of v 4)) a ≡ v
word_in-written xs a v h small =
    ap number_of (part-written xs (bytes_of v 4) a h) ∙ number_of-bytes_of v 4 small

pub half_in-written : (xs : List ℕ) (a v : ℕ) → a ≤ length xs → v < 2 ^ 16 → half_in (written xs a (bytes_of v 2)) a ≡ v
half_in-written xs a v h small =
    ap number_of (part-written xs (bytes_of v 2) a h) ∙ number_of-bytes_of v 2 small

-- what a map holds, as a word, is below 2^32 where it holds bytes
pub word-lt : (m : ℕ → ℕ) (a : ℕ) → ((i : ℕ) → m i < 256) → word m a < 2 ^ 32
word-lt m a h = omega (arith, h a, h (suc a), h (suc (suc a)), h (suc (suc (suc a))))

pub half-lt : (m : ℕ → ℕ) (a : ℕ) → ((i : ℕ) → m i < 256) → half m a < 2 ^ 16
half-lt m a h = omega (arith, h a, h (suc a))

-- a word stands in a map exactly where its four bytes do
pub word-bytes : (m : ℕ → ℕ) (a : ℕ) → ((i : ℕ) → m i < 256) → load m a 4 ≡ bytes_of (word m a) 4
word-bytes m a h =
    sym (bytes_of-number_of (load m a 4) (λ i. search (arith, h)))
