-- What a view shows of bytes, and words in bytes.
use Rattle.std.proofs.Common.{◌≡◌, ℕ, zero, suc, ◌+◌, ◌/◌, ◌%◌, ◌^◌, ◌<◌, ◌≤◌, List, [], ◌∷◌, length, take, drop, get_or, length-take-le, refl, sym, ap, subst, ◌∙◌, arith}
use Rattle.std.specs.Prelude.{Some}
use Rattle.std.proofs.lemmas.List.{take-append-drop}
use Rattle.sdt_word.specs.Bytes.{bytes_of, number_of}
use Rattle.patch_model.specs.Reaches.{View, Shows}
use Rattle.patch_model.proofs.VeneerLemmas.{shows_parts}

pub shows_there : (view : View) (base : ℕ) (xs : List ℕ) (n p : ℕ) → p + n ≤ length xs → Shows view base xs → Shows view (base + p) (take n (drop p xs))
shows_there view base xs n p within shows =
    let behind = shows_parts view base (take p xs) (drop p xs) (subst (λ (l : List ℕ). Shows view base l) (sym (take-append-drop p xs)) shows) in
    let e = length-take-le p xs (omega arith) in
    let from : base + length (take p xs) ≡ base + p = omega arith in
    let rest = subst (λ (a : ℕ). Shows view a (drop p xs)) from behind.1 in
    let front = shows_parts view (base + p) (take n (drop p xs)) (drop n (drop p xs))
    (subst (λ (l : List ℕ). Shows view (base + p) l) (sym (take-append-drop n (drop p xs))) rest) in
    front.0

pub shows_byte : (view : View) (base : ℕ) (xs : List ℕ) (i : ℕ) → Shows view base xs → i < length xs → view (base + i) ≡ Some (get_or xs i 0)
shows_byte view base [] i shows h = absurd (omega arith)
shows_byte view base (x ∷ xs) zero (here, rest) h = ap view (omega arith) ∙ here
shows_byte view base (x ∷ xs) (suc i) (here, rest) h = ap view (omega arith) ∙ shows_byte view (suc base) xs i rest (omega arith)

-- ---- words

pub number_of_bytes : (v : ℕ) → number_of (bytes_of v 4) ≡ v % 2 ^ 32
number_of_bytes v = omega arith

four : (a b c d x y z w : ℕ) → a ≡ x → b ≡ y → c ≡ z → d ≡ w → a ∷ b ∷ c ∷ d ∷ [] ≡ x ∷ y ∷ z ∷ w ∷ []
four a b c d x y z w h i j k = rw (h, i, j, k) refl

pub bytes_wrapped : (v : ℕ) → bytes_of (v % 2 ^ 32) 4 ≡ bytes_of v 4
bytes_wrapped v =
    let u = v % 2 ^ 32 in
    four (u % 256) (u / 256 % 256) (u / 256 / 256 % 256) (u / 256 / 256 / 256 % 256)
    (v % 256) (v / 256 % 256) (v / 256 / 256 % 256) (v / 256 / 256 / 256 % 256) (omega arith) (omega arith) (omega arith) (omega arith)
