-- Bytes that are made, and zeros behind them that aren't yet.
use Rattle.std.proofs.Common.{◌≡◌, ℕ, zero, suc, ◌+◌, ◌-◌, ◌%◌, ◌<◌, ◌≤◌, List, [], ◌∷◌, ◌++◌, length, take, drop, get_or, replicate, append_assoc, refl, sym, ap, ◌∙◌, arith, length-drop, length-take-le}
use Rattle.std.proofs.lemmas.List.{take-append-le, drop-append-le, drop-replicate, get_or_append_left, replicate-append-replicate}
use Rattle.std.proofs.Math.Seq.{drop-append-add, get_or-append_right}
use Rattle.sdt_word.specs.declared.codes.Width.{Width}
use Rattle.sdt_word.specs.declared.codes.Width.TheVariants.{Byte, Half, Word}
use Rattle.sdt_word.specs.Codes.{bytes_in}
use Rattle.sdt_word.specs.Bytes.{bytes_of, number_of, written}
use Rattle.sdt_word.proofs.BytesLemmas.{length-bytes_of}

zero_at : (n k : ℕ) → ◌≡◌ {A = ℕ} (get_or (replicate n 0) k 0) 0
zero_at zero k = refl
zero_at (suc n) zero = refl
zero_at (suc n) (suc k) = zero_at n k

-- ---- a byte

pub byte_made : (xs : List ℕ) (n at : ℕ) → at < length xs → get_or xs at 0 ≡ get_or (xs ++ replicate n 0) at 0
byte_made xs n at lt = sym (get_or_append_left xs (replicate n 0) 0 at lt)

pub byte_left : (xs : List ℕ) (n at : ℕ) → length xs ≤ at → 0 ≡ get_or (xs ++ replicate n 0) at 0
byte_left xs n at le = sym (get_or-append_right xs (replicate n 0) at 0 le ∙ zero_at n (at - length xs))

pub bytes_fit : (xs : List ℕ) (n k : ℕ) → ((i : ℕ) → get_or xs i 0 < 256) → get_or (xs ++ replicate n 0) k 0 < 256
bytes_fit [] n k h = let z = zero_at n k in omega arith
bytes_fit (x ∷ xs) n zero h = h 0
bytes_fit (x ∷ xs) n (suc k) h = bytes_fit xs n k (λ i. h (suc i))

-- ---- a number

pub number_made : (xs : List ℕ) (n at k : ℕ) → at + k ≤ length xs → number_of (take k (drop at xs)) ≡ number_of (take k (drop at (xs ++ replicate n 0)))
number_made xs n at k le =
    let d = drop-append-le at xs (replicate n 0) (omega arith) in
    let l = length-drop at xs in
    sym (ap (λ (ys : List ℕ). number_of (take k ys)) d ∙ ap number_of (take-append-le k (drop at xs) (replicate n 0) (omega arith)))

-- the bytes of a frame that are made
pub rest_made : (xs ys : List ℕ) (n at k : ℕ) → at + k ≤ length xs → ys ≡ take k (drop at xs) → ys ≡ take (length ys) (drop at (xs ++ replicate n 0))
rest_made xs ys n at k le e =
    let d = drop-append-le at xs (replicate n 0) (omega arith) in
    let l = length-drop at xs in
    let size : length ys ≡ k = ap length e ∙ length-take-le k (drop at xs) (omega arith) in
    e ∙ sym (ap (λ (m : ℕ). take m (drop at (xs ++ replicate n 0))) size ∙ ap (take k) d ∙ take-append-le k (drop at xs) (replicate n 0) (omega arith))

pub part_made : (xs : List ℕ) (n at k : ℕ) → at < length xs → length xs % 4096 ≡ 0 → at % 4096 + k ≤ 4096 → take k (drop at xs) ≡ take k (drop at (xs ++ replicate n 0))
part_made xs n at k lt w le =
    let d = drop-append-le at xs (replicate n 0) (omega arith) in
    let l = length-drop at xs in
    sym (ap (take k) d ∙ take-append-le k (drop at xs) (replicate n 0) (omega arith))

zeros : (k m : ℕ) → number_of (take k (replicate m 0)) ≡ 0
zeros zero m = refl
zeros (suc k) zero = refl
zeros (suc k) (suc m) = let z = zeros k m in omega arith

pub number_left : (xs : List ℕ) (n at k : ℕ) → length xs ≤ at → 0 ≡ number_of (take k (drop at (xs ++ replicate n 0)))
number_left xs n at k le =
    let s : length xs + (at - length xs) ≡ at = omega arith in
    let d = rw s at (drop-append-add xs (replicate n 0) (at - length xs)) in
    sym (ap (λ (ys : List ℕ). number_of (take k ys)) (d ∙ drop-replicate (at - length xs) n 0) ∙ zeros k (n - (at - length xs)))

one_at : (xs : List ℕ) (at : ℕ) → number_of (take 1 (drop at xs)) ≡ get_or xs at 0
one_at [] zero = refl
one_at [] (suc at) = refl
one_at (x ∷ xs) zero = omega arith
one_at (x ∷ xs) (suc at) = one_at xs at

pub number_byte : (xs : List ℕ) (n at x : ℕ) → at < length xs → x ≡ get_or xs at 0 → x ≡ number_of (take 1 (drop at (xs ++ replicate n 0)))
number_byte xs n at x lt e = e ∙ sym (one_at xs at) ∙ number_made xs n at 1 (omega arith)

-- ---- a write

pub access_fits : (width : Width) (at made : ℕ) → at % bytes_in width ≡ 0 → made % 4096 ≡ 0 → at < made → at + bytes_in width ≤ made
access_fits Byte at made e w lt = omega arith
access_fits Half at made e w lt = omega arith
access_fits Word at made e w lt = omega arith

pub written_made : (xs bs : List ℕ) (n at : ℕ) → at + length bs ≤ length xs → written xs at bs ++ replicate n 0 ≡ written (xs ++ replicate n 0) at bs
written_made xs bs n at le =
    rw (take-append-le at xs (replicate n 0) (omega arith), drop-append-le (at + length bs) xs (replicate n 0) le)
    (append_assoc (take at xs) (bs ++ drop (at + length bs) xs) (replicate n 0) ∙ ap (λ (ys : List ℕ). take at xs ++ ys) (append_assoc bs (drop (at + length bs) xs) (replicate n 0)))

pub bytes_put : (old items new bs : List ℕ) (left rest at : ℕ) → new ≡ written items at bs
    → items ++ replicate rest 0 ≡ old ++ replicate left 0 → at + length bs ≤ length items → new ++ replicate rest 0 ≡ written (old ++ replicate left 0) at bs
bytes_put old items new bs left rest at e s le =
    ap (λ (ys : List ℕ). ys ++ replicate rest 0) e ∙ written_made items bs rest at le ∙ ap (λ (ys : List ℕ). written ys at bs) s

pub write_made : (old items new : List ℕ) (left rest at v : ℕ) (width : Width) → new ≡ written items at (bytes_of v (bytes_in width))
    → items ++ replicate rest 0 ≡ old ++ replicate left 0 → at + bytes_in width ≤ length items
    → new ++ replicate rest 0 ≡ written (old ++ replicate left 0) at (bytes_of v (bytes_in width))
write_made old items new left rest at v width e s le =
    let l = length-bytes_of v (bytes_in width) in
    bytes_put old items new (bytes_of v (bytes_in width)) left rest at e s (omega arith)

-- ---- more zeros are made

pub zeros_moved : (xs : List ℕ) (more rest left : ℕ) → more + rest ≡ left → (xs ++ replicate more 0) ++ replicate rest 0 ≡ xs ++ replicate left 0
zeros_moved xs more rest left e =
    append_assoc xs (replicate more 0) (replicate rest 0) ∙ ap (λ (ys : List ℕ). xs ++ ys) (replicate-append-replicate more rest 0 ∙ ap (λ (k : ℕ). replicate k 0) e)

pub zeros_made : (xs new : List ℕ) (more rest left : ℕ) → new ≡ xs ++ replicate more 0 → more + rest ≡ left → new ++ replicate rest 0 ≡ xs ++ replicate left 0
zeros_made xs new more rest left e s = ap (λ (ys : List ℕ). ys ++ replicate rest 0) e ∙ zeros_moved xs more rest left s
