-- Bytes whose words are shifted.
use Rattle.std.proofs.Common.{◌≡◌, ℕ, ◌+◌, ◌*◌, ◌%◌, ◌^◌, ◌<◌, Bool, true, false, ◌==◌, if◌then◌else◌, List, [], ◌∷◌, ◌++◌, length, append_assoc, refl, sym, ap, ◌∙◌, arith}
use Rattle.sdt_word.specs.Bytes.{bytes_of, number_of}
use Rattle.link_laws.specs.AifJoins.{shifted_word, shifted_words}

word_length : (by n a b c d : ℕ) (rest : List ℕ) → length (shifted_word by n (a ∷ b ∷ c ∷ d ∷ []) ++ rest) ≡ 4 + length rest
word_length by n a b c d rest = go (n == 0)
  where
    go : (z : Bool) → length ((if z then a ∷ b ∷ c ∷ d ∷ [] else bytes_of ((number_of (a ∷ b ∷ c ∷ d ∷ []) + by * n) % 2 ^ 32) 4) ++ rest) ≡ 4 + length rest
    go true = omega arith
    go false = omega arith

pub shifted_length : (by : ℕ) (shifts : ℕ → ℕ) (at : ℕ) (bytes : List ℕ) → length (shifted_words by shifts at bytes) ≡ length bytes
shifted_length by shifts at [] = refl
shifted_length by shifts at (a ∷ []) = refl
shifted_length by shifts at (a ∷ b ∷ []) = refl
shifted_length by shifts at (a ∷ b ∷ c ∷ []) = refl
shifted_length by shifts at (a ∷ b ∷ c ∷ d ∷ bytes) =
    let rest = shifted_length by shifts (at + 4) bytes in
    let here = word_length by (shifts at) a b c d (shifted_words by shifts (at + 4) bytes) in
    omega (arith, here, rest)

-- by what counts the same there
pub shifted_same : (by : ℕ) (f g : ℕ → ℕ) (at other : ℕ) (bytes : List ℕ) → ((i : ℕ) → i < length bytes → f (at + i) ≡ g (other + i))
    → shifted_words by f at bytes ≡ shifted_words by g other bytes
shifted_same by f g at other [] same = refl
shifted_same by f g at other (a ∷ []) same = refl
shifted_same by f g at other (a ∷ b ∷ []) same = refl
shifted_same by f g at other (a ∷ b ∷ c ∷ []) same = refl
shifted_same by f g at other (a ∷ b ∷ c ∷ d ∷ bytes) same =
    let own : at + 0 ≡ at = omega arith in
    let others : other + 0 ≡ other = omega arith in
    let here : f at ≡ g other = ap f (sym own) ∙ same 0 (omega arith) ∙ ap g others in
    let rest = shifted_same by f g (at + 4) (other + 4) bytes (λ i lt.
    let x : at + 4 + i ≡ at + (4 + i) = omega arith in
    let y : other + (4 + i) ≡ other + 4 + i = omega arith in
    ap f x ∙ same (4 + i) (omega (arith, lt)) ∙ ap g y) in
    ap (λ n. shifted_word by n (a ∷ b ∷ c ∷ d ∷ []) ++ shifted_words by f (at + 4) bytes) here ∙ ap (λ bs. shifted_word by (g other) (a ∷ b ∷ c ∷ d ∷ []) ++ bs) rest

-- without any shift
pub shifted_none : (by : ℕ) (shifts : ℕ → ℕ) (at : ℕ) (bytes : List ℕ) → ((i : ℕ) → i < length bytes → shifts (at + i) ≡ 0) → shifted_words by shifts at bytes ≡ bytes
shifted_none by shifts at [] none = refl
shifted_none by shifts at (a ∷ []) none = refl
shifted_none by shifts at (a ∷ b ∷ []) none = refl
shifted_none by shifts at (a ∷ b ∷ c ∷ []) none = refl
shifted_none by shifts at (a ∷ b ∷ c ∷ d ∷ bytes) none =
    let own : at ≡ at + 0 = omega arith in
    let here : shifts at ≡ 0 = ap shifts own ∙ none 0 (omega arith) in
    let rest = shifted_none by shifts (at + 4) bytes (λ i lt.
    let x : at + 4 + i ≡ at + (4 + i) = omega arith in ap shifts x ∙ none (4 + i) (omega (arith, lt))) in
    ap (λ n. shifted_word by n (a ∷ b ∷ c ∷ d ∷ []) ++ shifted_words by shifts (at + 4) bytes) here ∙ ap (λ bs. a ∷ b ∷ c ∷ d ∷ bs) rest

-- whole words, and what stands behind them
pub shifted_append : (by : ℕ) (shifts : ℕ → ℕ) (at : ℕ) (front back : List ℕ) → length front % 4 ≡ 0
    → shifted_words by shifts at (front ++ back) ≡ shifted_words by shifts at front ++ shifted_words by shifts (at + length front) back
shifted_append by shifts at [] back whole = let own : at ≡ at + 0 = omega arith in ap (λ n. shifted_words by shifts n back) own
shifted_append by shifts at (a ∷ []) back whole = absurd (omega arith)
shifted_append by shifts at (a ∷ b ∷ []) back whole = absurd (omega arith)
shifted_append by shifts at (a ∷ b ∷ c ∷ []) back whole = absurd (omega arith)
shifted_append by shifts at (a ∷ b ∷ c ∷ d ∷ front) back whole =
    let rest = shifted_append by shifts (at + 4) front back (omega (arith, whole)) in
    let there : at + 4 + length front ≡ at + length (a ∷ b ∷ c ∷ d ∷ front) = omega arith in
    let first : List ℕ = shifted_word by (shifts at) (a ∷ b ∷ c ∷ d ∷ []) in
    ap (λ bs. first ++ bs) (rest ∙ ap (λ n. shifted_words by shifts (at + 4) front ++ shifted_words by shifts n back) there)
    ∙ sym (append_assoc first (shifted_words by shifts (at + 4) front) (shifted_words by shifts (at + length (a ∷ b ∷ c ∷ d ∷ front)) back))
