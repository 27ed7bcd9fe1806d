-- The lowest bytes of a number.
use Rattle.std.proofs.Common.{◌≡◌, ℕ, zero, suc, ◌+◌, ◌-◌, ◌*◌, ◌/◌, ◌%◌, ◌^◌, ◌<◌, ◌≤◌, ◌||◌, true, nat_lt, nat_le, List, [], ◌∷◌, ◌++◌, refl, sym, ap, ◌∙◌, arith, append_assoc, append-nil, lt-ltb}
use Rattle.std.proofs.Math.Nat.{pow-le-pow_right}
use Rattle.std.proofs.lemmas.Nat.{mod-pow-add}
use Rattle.sdt_word.specs.Bytes.{bytes_of}

-- a number of a byte and what stands above it
above_byte : (w v t k : ℕ) → w ≡ t * 256 + v % 256 → bytes_of t k ≡ bytes_of (v / 256) k → bytes_of w (suc k) ≡ bytes_of v (suc k)
above_byte w v t k e h =
    let low : w % 256 ≡ v % 256 = omega arith in
    let high : w / 256 ≡ t = omega arith in
    rw (low, high, h) refl

bytes_wrapped : (v k : ℕ) → bytes_of (v % 2 ^ (8 * k)) k ≡ bytes_of v k
bytes_wrapped v zero = refl
bytes_wrapped v (suc k) =
    let more : 8 * suc k ≡ 8 * k + 8 = omega arith in
    above_byte (v % 2 ^ (8 * suc k)) v (v / 256 % 2 ^ (8 * k)) k (ap (λ (i : ℕ). v % 2 ^ i) more ∙ mod-pow-add v (8 * k) 8) (bytes_wrapped (v / 256) k)

-- a byte more of those that are taken from a number
pub byte_taken : (done : List ℕ) (left n i : ℕ) → i < n → (done ++ left % 256 ∷ []) ++ bytes_of (left / 256) (n - (i + 1)) ≡ done ++ bytes_of left (n - i)
byte_taken done left n i h =
    let more : suc (n - (i + 1)) ≡ n - i = omega arith in
    append_assoc done (left % 256 ∷ []) (bytes_of (left / 256) (n - (i + 1))) ∙ ap (λ (k : ℕ). done ++ bytes_of left k) more

-- all bytes are taken
pub all_taken : (done : List ℕ) (left n i v : ℕ) → n - i ≡ 0 → done ++ bytes_of left (n - i) ≡ bytes_of v n → done ≡ bytes_of (v % 2 ^ (8 * n)) n
all_taken done left n i v none h =
    sym (append-nil done) ∙ ap (λ (k : ℕ). done ++ bytes_of left k) (sym none) ∙ h ∙ sym (bytes_wrapped v n)

-- each number fits four bytes and more
pub fits_wide : (width n : ℕ) → 4 ≤ width → n < 2 ^ 32 → true ≡ nat_lt n (2 ^ (8 * width)) || nat_le (2 ^ 32 - 2 ^ (8 * width - 1)) n
fits_wide width n wide small =
    let far : 32 ≤ 8 * width = omega arith in
    let power : 2 ^ 32 ≤ 2 ^ (8 * width) = pow-le-pow_right {n = 2} (omega arith) far in
    let below : nat_lt n (2 ^ (8 * width)) ≡ true = lt-ltb n (2 ^ (8 * width)) (omega arith) in
    rw below refl
