-- The longest prefix over all kinds.
use Rattle.std.proofs.Common.{◌≡◌, ℕ, ◌<◌, ◌≤◌, List, [], ◌∷◌, ◌++◌, length, take, Bool, true, false, cond, refl, sym, ◌∙◌, arith, Option, Some, None, zero, suc, inl, inr}
use Rattle.std.specs.Prelude.{nat_lt}
use Rattle.std.proofs.lemmas.Bool.{ltb-true, ltb-false, cases_order}
use Rattle.asm_model.specs.declared.tokens.TokenKind.{TokenKind}
use Rattle.asm_model.specs.declared.tokens.TokenKind.TheVariants.{Name, Barred, Number, Quoted, Character, Braced, Local, Sign}
use Rattle.asm_model.specs.Forms.{form_or, form_of, is_name, is_barred, is_number, is_quoted, is_character, is_one_of, is_local, braced_words, signs}
use Rattle.asm_model.specs.Tokens.{IsLongest}
use Rattle.asm_lines.specs.Lengths.{longer, best_of, name_len, barred_len, number_len, quoted_len, character_len, one_of_len, local_len}
use Rattle.asm_lines.proofs.Best.{IsBest, name_best, barred_best, number_best, quoted_best, character_best, one_of_best, local_best}

-- the first kind whose test holds
abbrev first_of : List (TokenKind × Bool) → Option TokenKind
first_of [] = None
first_of (k ∷ ks) = form_or k.1 k.0 (first_of ks)

first_of-some : (ks more : List (TokenKind × Bool)) (kind : TokenKind) → first_of ks ≡ Some kind → first_of (ks ++ more) ≡ Some kind
first_of-some [] more kind e = absurd (cc)
first_of-some ((k, true) ∷ ks) more kind e = e
first_of-some ((k, false) ∷ ks) more kind e = first_of-some ks more kind e

first_of-none : (ks more : List (TokenKind × Bool)) → first_of ks ≡ None → first_of (ks ++ more) ≡ first_of more
first_of-none [] more e = refl
first_of-none ((k, true) ∷ ks) more e = absurd (cc)
first_of-none ((k, false) ∷ ks) more e = first_of-none ks more e

-- the best among some kinds
record IsBestOf (tests : List ℕ → List (TokenKind × Bool)) (best : TokenKind × ℕ) (rest : List ℕ) : Type 0 where
  within : best.1 ≤ length rest
  holds : 0 < best.1 → first_of (tests (take best.1 rest)) ≡ Some best.0
  longest : (m : ℕ) → best.1 < m → m ≤ length rest → first_of (tests (take m rest)) ≡ None

more_kinds : (tests : List ℕ → List (TokenKind × Bool)) (has : List ℕ → Bool) (best : TokenKind × ℕ) (kind : TokenKind) (len : ℕ) (rest : List ℕ)
    → IsBestOf tests best rest → IsBest has len rest → IsBestOf (λ s. tests s ++ (kind, has s) ∷ []) (longer best kind len) rest
more_kinds tests has best kind len rest p q = chosen (nat_lt best.1 len) refl
  where
    one : (s : List ℕ) (b : Bool) → has s ≡ b → first_of ((kind, has s) ∷ []) ≡ form_or b kind None
    one s b e = rw e refl

    fails : (m : ℕ) → best.1 < m → len < m → m ≤ length rest → first_of (tests (take m rest) ++ (kind, has (take m rest)) ∷ []) ≡ None
    fails m l k w = first_of-none (tests (take m rest)) ((kind, has (take m rest)) ∷ []) (p.longest m l w) ∙ one (take m rest) false (q.longest m k w)

    chosen : (b : Bool) → nat_lt best.1 len ≡ b → IsBestOf (λ s. tests s ++ (kind, has s) ∷ []) (cond b (kind, len) best) rest
    chosen true e =
        let lt = ltb-true best.1 len e in
        record {
          within = q.within;
          holds =
              λ l. first_of-none (tests (take len rest)) ((kind, has (take len rest)) ∷ []) (p.longest len lt q.within) ∙ one (take len rest) true (q.holds l);
          longest = λ m l w. fails m (omega arith) l w;
        }
    chosen false e =
        let le = ltb-false best.1 len e in
        record {
          within = p.within;
          holds = λ l. first_of-some (tests (take best.1 rest)) ((kind, has (take best.1 rest)) ∷ []) best.0 (p.holds l);
          longest = λ m l w. fails m l (omega arith) w;
        }

abbrev all_kinds : List ℕ → List (TokenKind × Bool)
all_kinds s = (Name, is_name s) ∷ (Barred, is_barred s) ∷ (Number, is_number s) ∷ (Quoted, is_quoted s) ∷ (Character, is_character s)
    ∷ (Braced, is_one_of braced_words s) ∷ (Local, is_local s) ∷ (Sign, is_one_of signs s) ∷ []

first_kind : (kind : TokenKind) (has : List ℕ → Bool) (len : ℕ) (rest : List ℕ) → IsBest has len rest → IsBestOf (λ s. (kind, has s) ∷ []) (kind, len) rest
first_kind kind has len rest q =
    record { within = q.within; holds = λ l. rw (q.holds l) refl; longest = λ m l w. rw (q.longest m l w) refl }

best_is : (rest : List ℕ) → IsBestOf all_kinds (best_of rest) rest
unfolding best_of
best_is rest =
    more_kinds (λ s. _) (is_one_of signs) _ Sign (one_of_len signs rest) rest
    (more_kinds (λ s. _) is_local _ Local (local_len rest) rest
    (more_kinds (λ s. _) (is_one_of braced_words) _ Braced (one_of_len braced_words rest) rest
    (more_kinds (λ s. _) is_character _ Character (character_len rest) rest
    (more_kinds (λ s. _) is_quoted _ Quoted (quoted_len rest) rest
    (more_kinds (λ s. _) is_number _ Number (number_len rest) rest
    (more_kinds (λ s. _) is_barred _ Barred (barred_len rest) rest
    (first_kind Name is_name (name_len rest) rest (name_best rest)) (barred_best rest))
    (number_best rest))
    (quoted_best rest))
    (character_best rest))
    (one_of_best braced_words rest))
    (local_best rest))
    (one_of_best signs rest)

kinds_are : (s : List ℕ) → first_of (all_kinds s) ≡ form_of s
kinds_are s = refl

pub best_within : (rest : List ℕ) → (best_of rest).1 ≤ length rest
best_within rest = (best_is rest).within

-- where the best has a length, it is the longest prefix
pub best_longest : (rest : List ℕ) → 0 < (best_of rest).1 → IsLongest (best_of rest).0 (best_of rest).1 rest
best_longest rest some =
    let b = best_is rest in
    record {
      within = b.within;
      form = sym (kinds_are (take (best_of rest).1 rest)) ∙ b.holds some;
      longest = λ m l w. sym (kinds_are (take m rest)) ∙ b.longest m l w;
    }

-- and where it has none, no prefix has a form
pub best_none : (rest : List ℕ) → (best_of rest).1 ≡ 0 → (m : ℕ) → m ≤ length rest → form_of (take m rest) ≡ None
best_none rest none zero w = refl
best_none rest none (suc m) w = sym (kinds_are (take (suc m) rest)) ∙ (best_is rest).longest (suc m) (omega arith) w

-- the longest is one
pub one_longest : (k j : TokenKind) (n m : ℕ) (rest : List ℕ) → IsLongest k n rest → IsLongest j m rest → (k ≡ j) × (n ≡ m)
one_longest k j n m rest p q = elim (cases_order n m) [
  | inl e ↦ (let h = rw e at p.form in let g = q.form in cc, e)
  | inr ne ↦ elim ne [
    | inl lt ↦ absurd (let a = p.longest m lt q.within in let b = q.form in cc)
    | inr gt ↦ absurd (let a = q.longest n gt p.within in let b = p.form in cc)
  ]
]

pub some_longest : (k : TokenKind) (n : ℕ) (rest : List ℕ) → IsLongest k n rest → 0 < n
some_longest k zero rest p = absurd (let e = p.form in cc)
some_longest k (suc n) rest p = omega arith
