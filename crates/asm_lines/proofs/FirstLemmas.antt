-- The first byte tells which forms a prefix can have.
use Rattle.std.proofs.Common.{◌≡◌, ℕ, List, [], ◌∷◌, Bool, true, false, not, cond, refl, ◌∙◌, ap, sym, arith, max, map, length}
use Rattle.std.specs.Prelude.{◌==◌, nat_lt, nat_le, ◌&&◌, ◌||◌}
use Rattle.std.specs.List.{list_any, prefix_len, slice_split}
use Rattle.std.proofs.lemmas.Bool.{eqb-true, and_left, and_from, cond-true, cond-false, false_from_ne_true, ltb-true, ne_eqb}
use Rattle.std.proofs.lemmas.Bool.Decides.{nat_tests}
use Rattle.asm_model.specs.declared.tokens.TokenKind.{TokenKind}
use Rattle.asm_model.specs.declared.tokens.TokenKind.TheVariants.{Name, Barred, Number, Quoted, Character, Braced, Local, Sign}
use Rattle.asm_model.specs.Forms.{is_letter, is_digit, is_word, signs, braced_words}
use Rattle.asm_lines.specs.Lengths.{longer, best_of, form_at, other_of, is_alone, byte_signs, name_len, barred_len, number_len, quoted_len, character_len, local_len, word_len, words_len, one_of_len}

differs : (q : ℕ → Bool) (c d : ℕ) → q c ≡ true → q d ≡ false → (c == d) ≡ false
differs q c d p r = false_from_ne_true (c == d) (λ e. let i = eqb-true c d e in absurd (cc))

lacks : (q : ℕ → Bool) (c d : ℕ) → q c ≡ false → q d ≡ true → (c == d) ≡ false
lacks q c d p r = false_from_ne_true (c == d) (λ e. let i = eqb-true c d e in absurd (cc))

other : (c d e : ℕ) → (c == d) ≡ true → (d == e) ≡ false → (c == e) ≡ false
other c d e p r = let i = eqb-true c d p in rw i r

-- the words whose first byte passes
abbrev begins : (ℕ → Bool) → List ℕ → Bool
begins q [] = false
begins q (d ∷ ds) = q d

abbrev only : (ℕ → Bool) → List (List ℕ) → List (List ℕ)
only q [] = []
only q (w ∷ ws) = cond (begins q w) (w ∷ only q ws) (only q ws)

skip_zero : (k n m : ℕ) → k ≡ 0 → n ≡ m → max k n ≡ m
skip_zero k n m e h = omega arith

word_none : (q : ℕ → Bool) (c d : ℕ) (ds cs : List ℕ) → q c ≡ true → q d ≡ false → word_len (d ∷ ds) (c ∷ cs) ≡ 0
word_none q c d ds cs p r =
    cond-false _ _ _ (and_left (d == c) _ (false_from_ne_true (d == c) (λ e. let i = eqb-true d c e in absurd (cc))))

-- only words with a first byte like that of the rest count
heads : (q : ℕ → Bool) (ws : List (List ℕ)) (c : ℕ) (cs : List ℕ) → q c ≡ true → words_len ws (c ∷ cs) ≡ words_len (only q ws) (c ∷ cs)
heads q [] c cs p = refl
heads q ([] ∷ ws) c cs p = skip_zero (word_len [] (c ∷ cs)) _ _ refl (heads q ws c cs p)
heads q ((d ∷ ds) ∷ ws) c cs p = chosen (q d) refl (heads q ws c cs p)
  where
    chosen : (b : Bool) → q d ≡ b → words_len ws (c ∷ cs) ≡ words_len (only q ws) (c ∷ cs)
        → max (word_len (d ∷ ds) (c ∷ cs)) (words_len ws (c ∷ cs)) ≡ words_len (cond b ((d ∷ ds) ∷ only q ws) (only q ws)) (c ∷ cs)
    chosen true e h = ap (max (word_len (d ∷ ds) (c ∷ cs))) h
    chosen false e h = skip_zero _ _ _ (word_none q c d ds cs p e) h

singles : (ds : List ℕ) (c : ℕ) (cs : List ℕ) → words_len (map (λ d. d ∷ []) ds) (c ∷ cs) ≡ cond (list_any (λ d. d == c) ds) 1 0
singles [] c cs = refl
singles (d ∷ ds) c cs = chosen (d == c) (list_any (λ e. e == c) ds) refl (singles ds c cs)
  where
    one : (a : Bool) → (d == c) ≡ a → word_len (d ∷ []) (c ∷ cs) ≡ cond a 1 0
    one true e = cond-true _ _ _ (and_from (d == c) true e refl)
    one false e = cond-false _ _ _ (and_left (d == c) true e)

    chosen : (a b : Bool) → (d == c) ≡ a → words_len (map (λ e. e ∷ []) ds) (c ∷ cs) ≡ cond b 1 0
        → max (word_len (d ∷ []) (c ∷ cs)) (words_len (map (λ e. e ∷ []) ds) (c ∷ cs)) ≡ cond (a || b) 1 0
    chosen true true e h = let w = one true e in omega arith
    chosen true false e h = let w = one true e in omega arith
    chosen false true e h = let w = one false e in omega arith
    chosen false false e h = let w = one false e in omega arith

-- a sign that begins with a byte, where its words are those with the byte
pub sign_at : (d : ℕ) (rest : List ℕ) (c : ℕ) (cs : List ℕ) (r : ℕ) → rest ≡ c ∷ cs → c ≡ d → (d == d) ≡ true
    → r ≡ words_len (only (λ e. e == d) (slice_split (λ e. e == 32) signs)) rest → r ≡ one_of_len signs rest
sign_at d rest c cs r e i t h = rw e (rw e at h ∙ sym (heads (λ e. e == d) (slice_split (λ e. e == 32) signs) c cs (rw i t)))

byte_sign : (c : ℕ) (cs : List ℕ) → (c == 58) ≡ false → (c == 61) ≡ false → (c == 47) ≡ false → (c == 60) ≡ false → (c == 62) ≡ false
    → one_of_len signs (c ∷ cs) ≡ cond (list_any (λ d. d == c) byte_signs) 1 0
byte_sign c cs e1 e2 e3 e4 e5 =
    heads (λ d. not (d == 58) && (not (d == 61) && (not (d == 47) && (not (d == 60) && not (d == 62))))) (slice_split (λ e. e == 32) signs) c cs
    (rw (e1, e2, e3, e4, e5) refl)
    ∙ singles byte_signs c cs

pub other_sign : (rest : List ℕ) (c : ℕ) (cs : List ℕ) (r : ℕ) → rest ≡ c ∷ cs → (c ≡ 58 → ⊥) → (c ≡ 61 → ⊥) → (c ≡ 47 → ⊥) → (c ≡ 60 → ⊥) → (c ≡ 62 → ⊥)
    → r ≡ cond (list_any (λ d. d == c) byte_signs) 1 0 → r ≡ one_of_len signs rest
other_sign rest c cs r e n1 n2 n3 n4 n5 h =
    rw e (h ∙ sym (byte_sign c cs (ne_eqb c 58 n1) (ne_eqb c 61 n2) (ne_eqb c 47 n3) (ne_eqb c 60 n4) (ne_eqb c 62 n5)))

abbrev name_of : ℕ → TokenKind × ℕ
name_of n = (Name, n)

skip : (b : TokenKind × ℕ) (k : TokenKind) (n : ℕ) → n ≡ 0 → longer b k n ≡ b
skip b k n e = cond-false (nat_lt b.1 n) (k, n) b (false_from_ne_true _ (λ t. let l = ltb-true b.1 n t in absurd (omega arith)))

barred_none : (c : ℕ) (cs : List ℕ) → (c == 124) ≡ false → barred_len (c ∷ cs) ≡ 0
barred_none c cs e = cond-false (c == 124) _ 0 e

no_base : (c : ℕ) → is_digit c ≡ false → (nat_le 50 c && nat_le c 57) ≡ false
no_base c d = grind (arith, nat_tests)

letter_no_digit : (c : ℕ) → is_letter c ≡ true → is_digit c ≡ false
letter_no_digit c e = grind (arith, nat_tests)

number_none : (c : ℕ) (cs : List ℕ) → is_digit c ≡ false → (c == 38) ≡ false → number_len (c ∷ cs) ≡ 0
number_none c cs d e =
    rw (
      cond-false {A = ℕ} (is_digit c) _ 0 d,
      cond-false {A = ℕ} (c == 48) _ 0 (lacks is_digit c 48 d refl),
      cond-false {A = ℕ} (c == 38) _ 0 e,
      cond-false {A = ℕ} (nat_le 50 c && nat_le c 57) _ 0 (no_base c d),
    ) refl

quoted_none : (c : ℕ) (cs : List ℕ) → (c == 34) ≡ false → quoted_len (c ∷ cs) ≡ 0
quoted_none c cs e = cond-false (c == 34) _ 0 e

character_none : (c : ℕ) (cs : List ℕ) → (c == 39) ≡ false → character_len (c ∷ cs) ≡ 0
character_none c [] e = refl
character_none c (a ∷ []) e = refl
character_none c (a ∷ b ∷ cs) e = cond-false _ 3 0 (and_left (c == 39) _ e)

braced_none : (c : ℕ) (cs : List ℕ) → (c == 123) ≡ false → one_of_len braced_words (c ∷ cs) ≡ 0
braced_none c cs e = heads (λ d. not (d == 123)) (slice_split (λ e. e == 32) braced_words) c cs (ap not e)

local_none : (c : ℕ) (cs : List ℕ) → (c == 37) ≡ false → local_len (c ∷ cs) ≡ 0
local_none c cs e = cond-false (c == 37) _ 0 e

at_letter : (c : ℕ) (cs : List ℕ) → is_letter c ≡ true → best_of (c ∷ cs) ≡ name_of (prefix_len is_word (c ∷ cs))
unfolding best_of
at_letter c cs e =
    skip _ Sign _ (heads is_letter (slice_split (λ d. d == 32) signs) c cs e)
    ∙ skip _ Local _ (local_none c cs (differs is_letter c 37 e refl))
    ∙ skip _ Braced _ (braced_none c cs (differs is_letter c 123 e refl))
    ∙ skip _ Character _ (character_none c cs (differs is_letter c 39 e refl))
    ∙ skip _ Quoted _ (quoted_none c cs (differs is_letter c 34 e refl))
    ∙ skip _ Number _ (number_none c cs (letter_no_digit c e) (differs is_letter c 38 e refl))
    ∙ skip _ Barred _ (barred_none c cs (differs is_letter c 124 e refl))
    ∙ ap name_of (cond-true (is_letter c) _ 0 e)

at_digit : (c : ℕ) (cs : List ℕ) → is_letter c ≡ false → is_digit c ≡ true → best_of (c ∷ cs) ≡ longer (Name, 0) Number (number_len (c ∷ cs))
unfolding best_of
at_digit c cs l e =
    skip _ Sign _ (heads is_digit (slice_split (λ d. d == 32) signs) c cs e)
    ∙ skip _ Local _ (local_none c cs (differs is_digit c 37 e refl))
    ∙ skip _ Braced _ (braced_none c cs (differs is_digit c 123 e refl))
    ∙ skip _ Character _ (character_none c cs (differs is_digit c 39 e refl))
    ∙ skip _ Quoted _ (quoted_none c cs (differs is_digit c 34 e refl))
    ∙ ap (λ b. longer b Number (number_len (c ∷ cs)))
    (skip _ Barred _ (barred_none c cs (differs is_digit c 124 e refl)) ∙ ap name_of (cond-false (is_letter c) _ 0 l))

-- the same, by what the tests say
abbrev found : ℕ → List ℕ → Bool → Bool → Bool → Bool → Bool → Bool → TokenKind × ℕ
found c cs a b x y z w =
    cond a (Barred, barred_len (c ∷ cs)) (cond b (Quoted, quoted_len (c ∷ cs)) (cond x (Character, character_len (c ∷ cs))
    (cond y (Braced, one_of_len braced_words (c ∷ cs)) (cond z (Local, local_len (c ∷ cs)) (cond w (Number, number_len (c ∷ cs)) (Name, 0))))))

at_other : (c : ℕ) (cs : List ℕ) → is_letter c ≡ false → is_digit c ≡ false → best_of (c ∷ cs) ≡ other_of c (c ∷ cs)
unfolding best_of
at_other c cs l d =
    ap (λ b. longer b Sign (one_of_len signs (c ∷ cs))) (chosen (c == 124) (c == 34) (c == 39) (c == 123) (c == 37) (c == 38) refl refl refl refl refl refl)
  where
    name : name_of (name_len (c ∷ cs)) ≡ name_of 0
    name = ap name_of (cond-false (is_letter c) _ 0 l)

    chosen : (a b x y z w : Bool) → (c == 124) ≡ a → (c == 34) ≡ b → (c == 39) ≡ x → (c == 123) ≡ y → (c == 37) ≡ z → (c == 38) ≡ w
        → longer (longer (longer (longer (longer (longer (Name, name_len (c ∷ cs)) Barred (barred_len (c ∷ cs))) Number (number_len (c ∷ cs))) Quoted
        (quoted_len (c ∷ cs)))
        Character (character_len (c ∷ cs))) Braced (one_of_len braced_words (c ∷ cs))) Local (local_len (c ∷ cs))
        ≡ longer (Name, 0) (found c cs a b x y z w).0 (found c cs a b x y z w).1
    chosen true b x y z w e h1 h2 h3 h4 h5 =
        skip _ Local _ (local_none c cs (other c 124 37 e refl))
        ∙ skip _ Braced _ (braced_none c cs (other c 124 123 e refl))
        ∙ skip _ Character _ (character_none c cs (other c 124 39 e refl))
        ∙ skip _ Quoted _ (quoted_none c cs (other c 124 34 e refl))
        ∙ skip _ Number _ (number_none c cs d (other c 124 38 e refl))
        ∙ ap (λ b. longer b Barred (barred_len (c ∷ cs))) name
    chosen false true x y z w h0 e h2 h3 h4 h5 =
        skip _ Local _ (local_none c cs (other c 34 37 e refl))
        ∙ skip _ Braced _ (braced_none c cs (other c 34 123 e refl))
        ∙ skip _ Character _ (character_none c cs (other c 34 39 e refl))
        ∙ ap (λ b. longer b Quoted (quoted_len (c ∷ cs))) (skip _ Number _ (number_none c cs d (other c 34 38 e refl)) ∙ skip _ Barred _ (barred_none c cs h0)
        ∙ name)
    chosen false false true y z w h0 h1 e h3 h4 h5 =
        skip _ Local _ (local_none c cs (other c 39 37 e refl))
        ∙ skip _ Braced _ (braced_none c cs (other c 39 123 e refl))
        ∙ ap (λ b. longer b Character (character_len (c ∷ cs)))
        (skip _ Quoted _ (quoted_none c cs h1) ∙ skip _ Number _ (number_none c cs d (other c 39 38 e refl)) ∙ skip _ Barred _ (barred_none c cs h0) ∙ name)
    chosen false false false true z w h0 h1 h2 e h4 h5 =
        skip _ Local _ (local_none c cs (other c 123 37 e refl))
        ∙ ap (λ b. longer b Braced (one_of_len braced_words (c ∷ cs)))
        (skip _ Character _ (character_none c cs h2) ∙ skip _ Quoted _ (quoted_none c cs h1) ∙ skip _ Number _ (number_none c cs d (other c 123 38 e refl))
        ∙ skip _ Barred _ (barred_none c cs h0) ∙ name)
    chosen false false false false true w h0 h1 h2 h3 e h5 =
        ap (λ b. longer b Local (local_len (c ∷ cs)))
        (skip _ Braced _ (braced_none c cs h3) ∙ skip _ Character _ (character_none c cs h2) ∙ skip _ Quoted _ (quoted_none c cs h1)
        ∙ skip _ Number _ (number_none c cs d (other c 37 38 e refl)) ∙ skip _ Barred _ (barred_none c cs h0) ∙ name)
    chosen false false false false false true h0 h1 h2 h3 h4 e =
        skip _ Local _ (local_none c cs h4)
        ∙ skip _ Braced _ (braced_none c cs h3) ∙ skip _ Character _ (character_none c cs h2) ∙ skip _ Quoted _ (quoted_none c cs h1)
        ∙ ap (λ b. longer b Number (number_len (c ∷ cs))) (skip _ Barred _ (barred_none c cs h0) ∙ name)
    chosen false false false false false false h0 h1 h2 h3 h4 h5 =
        skip _ Local _ (local_none c cs h4)
        ∙ skip _ Braced _ (braced_none c cs h3) ∙ skip _ Character _ (character_none c cs h2) ∙ skip _ Quoted _ (quoted_none c cs h1)
        ∙ skip _ Number _ (number_none c cs d h5) ∙ skip _ Barred _ (barred_none c cs h0) ∙ name ∙ sym (skip (Name, 0) Name 0 refl)

pub empty_best_of : (rest : List ℕ) → length rest ≡ 0 → name_of 0 ≡ best_of rest
unfolding best_of
empty_best_of [] e = refl
empty_best_of (c ∷ cs) e = absurd (omega arith)

pub letter_best_of : (rest : List ℕ) (c : ℕ) (cs : List ℕ) (n : ℕ) → rest ≡ c ∷ cs → is_letter c ≡ true → n ≡ prefix_len is_word rest → name_of n ≡ best_of rest
letter_best_of rest c cs n e l h = rw (h, e) (sym (at_letter c cs l))

pub digit_best_of : (rest : List ℕ) (c : ℕ) (cs : List ℕ) (n : ℕ) (r : TokenKind × ℕ) → rest ≡ c ∷ cs → is_letter c ≡ false → is_digit c ≡ true
    → n ≡ number_len rest → r ≡ longer (Name, 0) Number n → r ≡ best_of rest
digit_best_of rest c cs n r e l d h i = i ∙ rw (h, e) (sym (at_digit c cs l d))

pub other_best_of : (rest : List ℕ) (c : ℕ) (cs : List ℕ) (r : TokenKind × ℕ) → rest ≡ c ∷ cs → is_letter c ≡ false → is_digit c ≡ false
    → r ≡ other_of c rest → r ≡ best_of rest
other_best_of rest c cs r e l d h = h ∙ rw e (sym (at_other c cs l d))

alone_sign : (c : ℕ) → is_alone c ≡ true → list_any (λ d. d == c) byte_signs ≡ true
alone_sign c e = grind (arith, nat_tests)

-- none of the other forms begins with the byte
alone_form : (c : ℕ) (rest : List ℕ) → is_alone c ≡ true → form_at c rest ≡ (Name, 0)
alone_form c rest e =
    rw (
      differs is_alone c 124 e refl,
      differs is_alone c 34 e refl,
      differs is_alone c 39 e refl,
      differs is_alone c 123 e refl,
      differs is_alone c 37 e refl,
      differs is_alone c 38 e refl,
    ) refl

alone_len : (c : ℕ) (cs : List ℕ) → is_alone c ≡ true → one_of_len signs (c ∷ cs) ≡ 1
alone_len c cs e =
    byte_sign c cs (differs is_alone c 58 e refl) (differs is_alone c 61 e refl) (differs is_alone c 47 e refl) (differs is_alone c 60 e refl)
    (differs is_alone c 62 e refl)
    ∙ cond-true _ 1 0 (alone_sign c e)

alone_no_letter : (c : ℕ) → is_alone c ≡ true → is_letter c ≡ false
alone_no_letter c e = grind (arith, nat_tests)

alone_no_digit : (c : ℕ) → is_alone c ≡ true → is_digit c ≡ false
alone_no_digit c e = grind (arith, nat_tests)

signed : (f : TokenKind × ℕ) (n : ℕ) → f ≡ (Name, 0) → n ≡ 1 → (Sign, 1) ≡ longer (longer (Name, 0) f.0 f.1) Sign n
signed f n e h = rw (e, h) refl

pub alone_best_of : (rest : List ℕ) (c : ℕ) (cs : List ℕ) → rest ≡ c ∷ cs → is_alone c ≡ true → (Sign, 1) ≡ best_of rest
alone_best_of rest c cs e a =
    other_best_of rest c cs (Sign, 1) e (alone_no_letter c a) (alone_no_digit c a)
    (signed (form_at c rest) (one_of_len signs rest) (alone_form c rest a) (ap (one_of_len signs) e ∙ alone_len c cs a))
