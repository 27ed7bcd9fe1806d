-- The tokens of a line have their forms.
use Rattle.std.proofs.Common.{◌≡◌, ℕ, ◌+◌, ◌-◌, ◌==◌, List, [], ◌∷◌, take, drop, Bool, true, false, cond, sym, ◌∙◌, ap, subst, arith, Option, Some, None, ◌⊎◌, inl, inr, drop-drop}
use Rattle.std.specs.Prelude.{MatchBool}
use Rattle.asm_model.specs.declared.tokens.Due.{Due}
use Rattle.asm_model.specs.declared.tokens.Due.TheVariants as due
use Rattle.asm_model.specs.declared.tokens.Token.{Token}
use Rattle.asm_model.specs.declared.tokens.TokenKind.{TokenKind}
use Rattle.asm_model.specs.declared.tokens.TokenKind.TheVariants as kind
use Rattle.asm_model.specs.Forms.{form_of}
use Rattle.asm_model.specs.Parts.{piece}
use Rattle.asm_model.specs.Says.{operated, sentence}
use Rattle.asm_model.specs.Tokens.{IsLongest, is_operation_sign, IsTokenAt, due_behind, blanks, TokensFrom}

abbrev pub HasForm : TokenKind → List ℕ → Type 0
HasForm k s = (form_of s ≡ Some k) ⊎ (k ≡ kind.Sign)

abbrev pub EachHasForm : List ℕ → List Token → Type 0
EachHasForm text [] = Unit {0}
EachHasForm text (t ∷ ts) = HasForm t.kind (piece text t) × EachHasForm text ts

pub operation_form : (b : Bool) (k : TokenKind) (n : ℕ) (rest : List ℕ) → MatchBool b ((k ≡ kind.Sign) × (n ≡ 1)) (IsLongest k n rest) → HasForm k (take n rest)
operation_form true k n rest h = inr h.0
operation_form false k n rest h = inl h.form

pub token_form : (d : Due) (k : TokenKind) (n : ℕ) (rest : List ℕ) → IsTokenAt d k n rest → HasForm k (take n rest)
token_form due.Label k n rest h = inl h.form
token_form due.Operation k n rest h = operation_form (is_operation_sign rest) k n rest h
token_form due.Operands k n rest h = inl h.form
token_form due.Nothing k n rest h = absurd h

pub further : (a b : ℕ) (xs : List ℕ) → drop (a + b) xs ≡ drop b (drop a xs)
further a b xs = search (drop-drop)

pub piece_at : (text rest : List ℕ) (t : Token) (place n : ℕ) → rest ≡ drop place text → t.start ≡ place + blanks rest → t.end ≡ t.start + n
    → piece text t ≡ take n (drop (blanks rest) rest)
piece_at text rest t place n e s f =
    let x : t.end - t.start ≡ n = omega (arith, f) in
    ap (λ z. take z (drop t.start text)) x ∙ ap (λ z. take n (drop z text)) s ∙ ap (λ z. take n z) (further place (blanks rest) text)
    ∙ ap (λ z. take n (drop (blanks rest) z)) (sym e)

pub rest_behind : (text rest : List ℕ) (t : Token) (place n : ℕ) → rest ≡ drop place text → t.start ≡ place + blanks rest → t.end ≡ t.start + n
    → drop n (drop (blanks rest) rest) ≡ drop t.end text
rest_behind text rest t place n e s f =
    ap (λ z. drop n (drop (blanks rest) z)) e ∙ ap (drop n) (sym (further place (blanks rest) text)) ∙ ap (λ z. drop n (drop z text)) (sym s)
    ∙ sym (further t.start n text) ∙ ap (λ z. drop z text) (sym f)

pub tokens_form : (text : List ℕ) (ts : List Token) (d : Due) (place : ℕ) (rest : List ℕ) → rest ≡ drop place text → TokensFrom ts d place rest
    → EachHasForm text ts
tokens_form text [] d place rest e h = tt
tokens_form text (t ∷ ts) d place rest e h = (
  subst (HasForm t.kind) (sym (piece_at text rest t place h.0 e h.1 h.2)) (token_form d t.kind h.0 (drop (blanks rest) rest) h.3),
  tokens_form text ts (due_behind d (take h.0 (drop (blanks rest) rest))) t.end (drop h.0 (drop (blanks rest) rest))
      (rest_behind text rest t place h.0 e h.1 h.2) h.4,
)

abbrev pub OptionHasForm : List ℕ → Option Token → Type 0
OptionHasForm text None = Unit {0}
OptionHasForm text (Some t) = HasForm t.kind (piece text t)

pub operated_form : (text : List ℕ) (o : Option Token) (ts : List Token) → OptionHasForm text o → EachHasForm text ts
    → OptionHasForm text (operated o ts).label × EachHasForm text (operated o ts).behind
operated_form text o [] h k = (h, tt)
operated_form text o (t ∷ ts) h k = (h, k.1)

pub sentence_form : (text : List ℕ) (ts : List Token) → EachHasForm text ts → OptionHasForm text (sentence ts).label × EachHasForm text (sentence ts).behind
sentence_form text [] h = (tt, tt)
sentence_form text (t ∷ ts) h = by_test (t.start == 0)
  where
    by_test : (b : Bool) → OptionHasForm text (cond b (operated (Some t) ts) (operated None (t ∷ ts))).label
        × EachHasForm text (cond b (operated (Some t) ts) (operated None (t ∷ ts))).behind
    by_test true = operated_form text (Some t) ts h.0 h.1
    by_test false = operated_form text None (t ∷ ts) tt h
