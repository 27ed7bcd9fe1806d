-- Joining parts one by one: what is joined so far with what joining the rest gives is what joining all
-- gives.
use Rattle.std.proofs.Common.{◌≡◌, ℕ, ◌+◌, ◌*◌, ◌/◌, ◌%◌, ◌^◌, ◌<◌, ◌≤◌, List, [], ◌∷◌, arith, length, drop, get_or, pow-add, mul-le-mul_left, mul-le-mul_right, drop-cons, drop_of_length-le, add-one, subst, sym, ap, ◌∙◌, div-add-mod', mod-lt, mod-eq_of_lt}
use Rattle.std.proofs.lemmas.Nat.{pow_pos}
use Rattle.sdt_word.specs.Parts.{PartsFit, joined, total_width}

pub record IsJoinedTo (parts : List (ℕ × ℕ)) (word : ℕ) (rest : List (ℕ × ℕ)) : Type 0 where
  pub narrow : total_width rest ≤ 32
  pub room : (word + 1) * 2 ^ total_width rest ≤ 2 ^ 32
  pub value : word * 2 ^ total_width rest + joined rest ≡ joined parts
  pub fits_on : PartsFit parts → PartsFit rest
  pub fits_back : PartsFit rest → PartsFit parts

-- the word with one more part
pub joined-lt : (parts : List (ℕ × ℕ)) (word : ℕ) (p : ℕ × ℕ) (rest : List (ℕ × ℕ)) → IsJoinedTo parts word (p ∷ rest) → p.0 < 2 ^ p.1 → word * 2 ^ p.1 + p.0 < 2 ^ 32
joined-lt parts word p rest so_far fits =
    let e = pow-add 2 p.1 (total_width rest) in
    let one = pow_pos (total_width rest) in
    let room : (word + 1) * (2 ^ p.1 * 2 ^ total_width rest) ≤ 2 ^ 32 = rw (← e) so_far.room in
    let least : (word + 1) * 2 ^ p.1 * 1 ≤ (word + 1) * 2 ^ p.1 * 2 ^ total_width rest = mul-le-mul_left ((word + 1) * 2 ^ p.1) (omega arith) in
    omega arith

pub joined-next : (parts : List (ℕ × ℕ)) (word : ℕ) (p : ℕ × ℕ) (rest : List (ℕ × ℕ)) → IsJoinedTo parts word (p ∷ rest) → p.0 < 2 ^ p.1 → IsJoinedTo parts (word * 2 ^ p.1 + p.0) rest
joined-next parts word p rest so_far fits =
    let e = pow-add 2 p.1 (total_width rest) in
    let room : (word + 1) * (2 ^ p.1 * 2 ^ total_width rest) ≤ 2 ^ 32 = rw (← e) so_far.room in
    let value : word * (2 ^ p.1 * 2 ^ total_width rest) + joined (p ∷ rest) ≡ joined parts = rw (← e) so_far.value in
    let top : (p.0 + 1) * 2 ^ total_width rest ≤ 2 ^ p.1 * 2 ^ total_width rest = mul-le-mul_right (2 ^ total_width rest) (omega arith) in
    record {
      narrow = omega (arith, so_far.narrow);
      room = omega arith;
      value = omega arith;
      fits_on = λ f. (so_far.fits_on f).1;
      fits_back = λ f. so_far.fits_back (fits, f);
    }

-- at a place of the list
pub at_place : (parts : List (ℕ × ℕ)) (word k : ℕ) (d : ℕ × ℕ) → k < length parts → IsJoinedTo parts word (drop k parts) → IsJoinedTo parts word (get_or parts k d ∷ drop (k + 1) parts)
at_place parts word k d h so_far =
    let Joined : List (ℕ × ℕ) → Type 0 = IsJoinedTo parts word in
    let e : drop k parts ≡ get_or parts k d ∷ drop (k + 1) parts = rw add-one (drop-cons parts k d h) in
    subst Joined e so_far

-- a value that shifted down leaves nothing fits
lt-pow : (v n : ℕ) → v / 2 ^ n ≡ 0 → v < 2 ^ n
lt-pow v n e =
    let split = div-add-mod' v (2 ^ n) in
    let whole = rw e at split in
    let low = mod-lt v (pow_pos n) in
    omega arith

-- one step of joining, as the code computes it
pub joined-step : (parts : List (ℕ × ℕ)) (word k : ℕ) (d : ℕ × ℕ) → k < length parts → IsJoinedTo parts word (drop k parts) → (a b : ℕ) → a ≡ (get_or parts k d).0 → a / 2 ^ (get_or parts k d).1 ≡ 0 → b ≡ (get_or parts k d).0 → (word * 2 ^ (get_or parts k d).1 % 2 ^ 64 + b < 2 ^ 32) × IsJoinedTo parts (word * 2 ^ (get_or parts k d).1 % 2 ^ 64 + b) (drop (k + 1) parts)
joined-step parts word k d h so_far a b is_first none is_second =
    let p = get_or parts k d in
    let Next : ℕ → Type 0 = λ n. (n < 2 ^ 32) × IsJoinedTo parts n (drop (k + 1) parts) in
    let here = at_place parts word k d h so_far in
    let empty : p.0 / 2 ^ p.1 ≡ 0 = ap (λ (n : ℕ). n / 2 ^ p.1) (sym is_first) ∙ none in
    let fits : p.0 < 2 ^ p.1 = lt-pow p.0 p.1 empty in
    let small = joined-lt parts word p (drop (k + 1) parts) here fits in
    let within : word * 2 ^ p.1 < 2 ^ 64 = omega arith in
    let whole : word * 2 ^ p.1 % 2 ^ 64 ≡ word * 2 ^ p.1 = mod-eq_of_lt within in
    let same : word * 2 ^ p.1 + p.0 ≡ word * 2 ^ p.1 % 2 ^ 64 + b = omega arith in
    subst Next same (small, joined-next parts word p (drop (k + 1) parts) here fits)

-- joined parts stay below their width
pub joined-lt-width : (ps : List (ℕ × ℕ)) → PartsFit ps → joined ps < 2 ^ total_width ps
joined-lt-width [] fits = omega arith
joined-lt-width (p ∷ ps) fits =
    let rest = joined-lt-width ps fits.1 in
    let e = pow-add 2 p.1 (total_width ps) in
    let first : p.0 < 2 ^ p.1 = fits.0 in
    let top : (p.0 + 1) * 2 ^ total_width ps ≤ 2 ^ p.1 * 2 ^ total_width ps = mul-le-mul_right (2 ^ total_width ps) (omega arith) in
    omega arith

-- where no part is left
pub joined-end : (parts : List (ℕ × ℕ)) (word k : ℕ) → length parts ≤ k → IsJoinedTo parts word (drop k parts) → word < 2 ^ total_width parts
joined-end parts word k h so_far =
    let Joined : List (ℕ × ℕ) → Type 0 = IsJoinedTo parts word in
    let all : drop k parts ≡ [] = drop_of_length-le parts h in
    let done : IsJoinedTo parts word [] = subst Joined all so_far in
    let value = done.value in
    let fits = joined-lt-width parts (done.fits_back tt) in
    omega arith
