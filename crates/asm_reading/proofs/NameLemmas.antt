-- Names that tokens spell have a character and hold no zero byte.
use Rattle.std.proofs.Common.{◌≡◌, ◌≢◌, ℕ, ◌-◌, ◌==◌, List, [], ◌∷◌, length, take, ◌&&◌, Bool, true, false, refl, subst, arith, inl, inr, Option, Some, None}
use Rattle.std.specs.List.{list_all}
use Rattle.std.proofs.lemmas.Bool.{and_parts, eqb-true}
use Rattle.asm_model.specs.declared.tokens.TokenKind.{TokenKind}
use Rattle.asm_model.specs.declared.tokens.TokenKind.TheVariants as kind
use Rattle.asm_model.specs.Forms.{is_digit, is_letter, is_word, is_between_bars, one_or_more, ends_with_bar, form_of, form_or, is_name, is_barred, is_number, is_quoted, is_character, is_one_of, braced_words, is_local, signs, is_short}
use Rattle.asm_model.specs.Says.{between_bars, name_of}
use Rattle.asm_model.specs.PlacedLines.{IsName}
use Rattle.asm_model.specs.Said.{HoldsNoZero}
use Rattle.asm_model.proofs.SaidLemmas.{IsText}
use Rattle.asm_reading.proofs.GivesLemmas.{Gives}
use Rattle.asm_reading.proofs.TokenLemmas.{HasForm}

-- ---- forms of names

pub no_between : (c : ℕ) → c ≡ 124 → is_between_bars c ≡ true → ⊥
no_between c e h = let x : is_between_bars 124 ≡ true = subst (λ z. is_between_bars z ≡ true) e h in absurd (cc)

abbrev WordForm : List ℕ → TokenKind → Type 0
WordForm s kind.Name = is_name s ≡ true
WordForm s kind.Barred = is_barred s ≡ true
WordForm s _ = Unit {0}

or_form : (P : TokenKind → Type 0) (j : TokenKind) (b : Bool) (k : TokenKind) (o : Option TokenKind) → (b ≡ true → P k) → (o ≡ Some j → P j)
    → form_or b k o ≡ Some j → P j
or_form P j true k o f g e = let x : k ≡ j = cc in subst P x (f refl)
or_form P j false k o f g e = g e

word_form : (s : List ℕ) (j : TokenKind) → form_of s ≡ Some j → WordForm s j
word_form s j =
    or_form (WordForm s) j (is_name s) kind.Name _ (λ x. x) (or_form (WordForm s) j (is_barred s) kind.Barred _ (λ x. x)
    (or_form (WordForm s) j (is_number s) kind.Number _ (λ x. tt) (or_form (WordForm s) j (is_quoted s) kind.Quoted _ (λ x. tt)
    (or_form (WordForm s) j (is_character s) kind.Character _ (λ x. tt) (or_form (WordForm s) j (is_one_of braced_words s) kind.Braced _ (λ x. tt)
    (or_form (WordForm s) j (is_local s) kind.Local _ (λ x. tt) (or_form (WordForm s) j (is_one_of signs s) kind.Sign None (λ x. tt) (λ e. absurd (cc)))))))))

-- ---- bytes

pub letter_text : (c : ℕ) → is_word c ≡ true → c ≢ 0
letter_text c h = λ e. let x : is_word 0 ≡ true = subst (λ z. is_word z ≡ true) e h in absurd (cc)

pub between_text : (c : ℕ) → is_between_bars c ≡ true → c ≢ 0
between_text c h = λ e. let x : is_between_bars 0 ≡ true = subst (λ z. is_between_bars z ≡ true) e h in absurd (cc)

pub digit_text : (c : ℕ) → is_digit c ≡ true → c ≢ 0
digit_text c h = λ e. let x : is_digit 0 ≡ true = subst (λ z. is_digit z ≡ true) e h in absurd (cc)

pub words_text : (s : List ℕ) → list_all is_word s ≡ true → HoldsNoZero s
words_text [] h = tt
words_text (c ∷ cs) h = let p = and_parts (is_word c) (list_all is_word cs) h in (letter_text c p.0, words_text cs p.1)

pub name_text : (s : List ℕ) → is_name s ≡ true → IsText s
name_text [] h = absurd (cc)
name_text (c ∷ cs) h = (words_text (c ∷ cs) (and_parts (is_letter c) (one_or_more is_word (c ∷ cs)) h).1, tt)

pub inner_text : (c : ℕ) (cs : List ℕ) → ends_with_bar (c ∷ cs) ≡ true → HoldsNoZero (take (length cs) (c ∷ cs))
inner_text c [] h = tt
inner_text c (d ∷ ds) h =
    let p = and_parts (is_between_bars c) (ends_with_bar (d ∷ ds)) h in (between_text c p.0, inner_text d ds p.1)

-- a bar stands between no bars, so that a byte stands before the one that ends them
pub inner_named : (c : ℕ) (cs : List ℕ) → is_between_bars c ≡ true → ends_with_bar (c ∷ cs) ≡ true → IsName (take (length cs) (c ∷ cs))
inner_named c [] h k = absurd (no_between c (eqb-true c 124 k) h)
inner_named c (d ∷ ds) h k = tt

pub barred_text : (s : List ℕ) → is_barred s ≡ true → IsText (between_bars s)
barred_text [] h = absurd (cc)
barred_text (b ∷ []) h = let p = and_parts (b == 124) false h in absurd (let x = p.1 in cc)
barred_text (b ∷ c ∷ cs) h =
    let p = and_parts (b == 124) (is_between_bars c && ends_with_bar (c ∷ cs)) h in
    let r = and_parts (is_between_bars c) (ends_with_bar (c ∷ cs)) p.1 in
    let x : length cs ≡ length (b ∷ c ∷ cs) - 2 = omega arith in
    subst (λ n. IsText (take n (c ∷ cs))) x (inner_text c cs r.1, inner_named c cs r.0 r.1)

pub short_text : (s : List ℕ) → is_short s ≡ true → HoldsNoZero s
short_text [] h = tt
short_text (c ∷ []) h = (digit_text c h, tt)
short_text (c ∷ d ∷ []) h = let p = and_parts (is_digit c) (is_digit d) h in (digit_text c p.0, (digit_text d p.1, tt))
short_text (c ∷ d ∷ e ∷ cs) h = absurd (cc)

-- ---- names

pub word_text : (k : TokenKind) (s : List ℕ) → HasForm k s → Gives IsText (name_of k s)
word_text kind.Name s h = elim h [ inl f ↦ name_text s (word_form s kind.Name f) | inr f ↦ absurd (cc) ]
word_text kind.Barred s h = elim h [ inl f ↦ barred_text s (word_form s kind.Barred f) | inr f ↦ absurd (cc) ]
word_text kind.Number s h = tt
word_text kind.Quoted s h = tt
word_text kind.Character s h = tt
word_text kind.Braced s h = tt
word_text kind.Local s h = tt
word_text kind.Sign s h = tt
