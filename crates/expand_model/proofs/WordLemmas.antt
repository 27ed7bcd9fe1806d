-- The words of a line and its tokens.
use Rattle.std.proofs.Common.{◌≡◌, ℕ, zero, suc, ◌+◌, ◌-◌, ◌<◌, ◌≤◌, List, [], ◌∷◌, length, take, drop, Bool, true, false, cond, refl, sym, ◌∙◌, ap, arith, Option, Some, None, inl, inr}
use Rattle.std.specs.Prelude.{◌==◌, MatchBool}
use Rattle.std.proofs.lemmas.Bool.{eqb-true, ne_eqb, cases_lt}
use Rattle.std.proofs.lemmas.List.{drop-drop}
use Rattle.asm_model.specs.declared.tokens.Token.{Token}
use Rattle.asm_model.specs.declared.tokens.Due.TheVariants.{Label, Operation, Operands}
use Rattle.asm_model.specs.declared.tokens.TokenKind.{TokenKind}
use Rattle.asm_model.specs.declared.tokens.TokenKind.TheVariants.{Sign}
use Rattle.asm_model.specs.Forms.{is_blank, form_of}
use Rattle.asm_model.specs.Parts.{piece}
use Rattle.asm_model.specs.Says.{Sentence, sentence, operated}
use Rattle.asm_model.specs.Tokens.{IsLongest, IsTokenAt, Tokens, TokensFrom, blanks, is_operation_sign, begins_comment}
use Rattle.asm_lines.specs.Lengths.{best_of}
use Rattle.asm_lines.specs.Steps.{IsTheToken}
use Rattle.asm_lines.proofs.KindLemmas.{best_longest, best_none, some_longest}
use Rattle.expand_model.specs.Words.{longest, token_width, sign_or, in_column_1, without_blanks, behind_width, words_of, maybe_piece, WordsLaw}

-- ---- the width of a token

longest_zero : (m : ℕ) (rest : List ℕ) → m ≤ length rest → ((j : ℕ) → j ≤ length rest → form_of (take j rest) ≡ None) → longest m rest ≡ 0
longest_zero zero rest w none = refl
longest_zero (suc m) rest w none = rw (none (suc m) w) (longest_zero m rest (omega arith) none)

longest_here : (k : TokenKind) (n m : ℕ) (rest : List ℕ) → IsLongest k n rest → n ≡ suc m → longest (suc m) rest ≡ n
longest_here k n m rest p e = let f = rw e at p.form in rw f (sym e)

longest_before : (k : TokenKind) (n m : ℕ) (rest : List ℕ) → IsLongest k n rest → n < suc m → suc m ≤ length rest → longest m rest ≡ n
    → longest (suc m) rest ≡ n
longest_before k n m rest p lt w h = let f = p.longest (suc m) lt w in rw f h

longest_is : (k : TokenKind) (n m : ℕ) (rest : List ℕ) → IsLongest k n rest → n ≤ m → m ≤ length rest → longest m rest ≡ n
longest_is k n zero rest p le w = omega arith
longest_is k n (suc m) rest p le w = elim (cases_lt n (suc m)) [
  | inl lt ↦ longest_before k n m rest p lt w (longest_is k n m rest p (omega arith) (omega arith))
  | inr ge ↦ longest_here k n m rest p (omega arith)
]

token_width_is : (k : TokenKind) (n : ℕ) (rest : List ℕ) → IsLongest k n rest → token_width rest ≡ n
unfolding token_width
token_width_is k n rest p = longest_is k n (length rest) rest p p.within (omega arith)

no_width : (rest : List ℕ) → ((j : ℕ) → j ≤ length rest → form_of (take j rest) ≡ None) → token_width rest ≡ 0
unfolding token_width
no_width rest none = longest_zero (length rest) rest (omega arith) none

pub width_of_none : (rest : List ℕ) → IsTheToken Operands rest None → token_width rest ≡ 0
width_of_none rest none = by_best (best_of rest).1 refl
  where
    by_best : (n : ℕ) → (best_of rest).1 ≡ n → token_width rest ≡ 0
    by_best zero e = no_width rest (best_none rest e)
    by_best (suc n) e = absurd (none (best_of rest).0 (best_of rest).1 (best_longest rest (omega (arith, e))))

pub width_of_some : (rest : List ℕ) (t : TokenKind × ℕ) → IsTheToken Operands rest (Some t) → token_width rest ≡ t.1
width_of_some rest t the = token_width_is t.0 t.1 rest the.0

-- ---- the words of a line are its first tokens

empty_width : token_width [] ≡ 0
unfolding token_width
empty_width = refl

comment_width : (cs : List ℕ) → token_width (59 ∷ cs) ≡ 0
comment_width cs = no_width (59 ∷ cs) none
  where
    none : (j : ℕ) → j ≤ length (59 ∷ cs) → form_of (take j (59 ∷ cs)) ≡ None
    none zero w = refl
    none (suc j) w = refl

ended_width : (front : List ℕ) → begins_comment front ≡ true → token_width front ≡ 0
ended_width [] e = empty_width
ended_width (c ∷ cs) e = let is = eqb-true c 59 e in rw is (comment_width cs)

ended_operation : (front : List ℕ) → begins_comment front ≡ true → sign_or token_width front ≡ 0
ended_operation [] e = empty_width
ended_operation (c ∷ cs) e = let is = eqb-true c 59 e in rw is (comment_width cs)

operation_width : (kind : TokenKind) (n : ℕ) (front : List ℕ) → IsTokenAt Operation kind n front → sign_or token_width front ≡ n
operation_width kind n front p = by_sign (is_operation_sign front) p
  where
    by_sign : (b : Bool) → MatchBool b ((kind ≡ Sign) × (n ≡ 1)) (IsLongest kind n front) → cond b 1 (token_width front) ≡ n
    by_sign true p = sym p.1
    by_sign false p = token_width_is kind n front p

-- a label field of so many bytes, and the operation behind it
record AreWords (width : ℕ) (text : List ℕ) (s : Sentence) : Type 0 where
  pub label : take width text ≡ maybe_piece text s.label
  pub operation : take (sign_or token_width (behind_width width text)) (behind_width width text) ≡ maybe_piece text s.operation

-- a token that begins at a place
piece_at : (text : List ℕ) (t : Token) (place n : ℕ) → t.start ≡ place → t.end ≡ t.start + n → take n (drop place text) ≡ piece text t
piece_at text t place n s e =
    let width : t.end - t.start ≡ n = omega (arith, e) in
    rw (width, s) refl

operation_is : (text : List ℕ) (place : ℕ) (ts : List Token) (label : Option Token) → TokensFrom ts Operation place (drop place text)
    → take (sign_or token_width (behind_width place text)) (behind_width place text) ≡ maybe_piece text (operated label ts).operation
operation_is text place [] label h = rw (ended_operation (without_blanks (drop place text)) h) refl
operation_is text place (t ∷ ts) label h =
    let b = blanks (drop place text) in
    rw (operation_width t.kind h.0 (without_blanks (drop place text)) h.3)
    (ap (take h.0) (drop-drop b place text) ∙ piece_at text t (place + b) h.0 h.1 h.2)

blanks_some : (c : ℕ) (cs : List ℕ) → is_blank c ≡ true → 0 < blanks (c ∷ cs)
blanks_some c cs e = rw e (omega arith)

blanks_none : (c : ℕ) (cs : List ℕ) → is_blank c ≡ false → blanks (c ∷ cs) ≡ 0
blanks_none c cs e = rw e refl

-- a line without a label
behind_blank : (text : List ℕ) → 0 < blanks text → (ts : List Token) → TokensFrom ts Operation 0 text → AreWords 0 text (sentence ts)
behind_blank text some [] h = record { label = refl; operation = operation_is text 0 [] None h }
behind_blank text some (t ∷ ts) h =
    let later : (t.start == 0) ≡ false = ne_eqb t.start 0 (λ z. let s = h.1 in omega arith) in
    rw later (record { label = refl; operation = operation_is text 0 (t ∷ ts) None h })

of_empty : (ts : List Token) → TokensFrom ts Operation 0 [] → AreWords 0 [] (sentence ts)
of_empty [] h = record { label = refl; operation = operation_is [] 0 [] None h }
of_empty (t ∷ ts) h = absurd (let l = some_longest t.kind h.0 [] h.3 in let w = h.3.within in omega arith)

labelled : (label : Option Token) (ts : List Token) → (operated label ts).label ≡ label
labelled label [] = refl
labelled label (t ∷ ts) = refl

-- a line with a label, or without words
in_front : (text : List ℕ) → blanks text ≡ 0 → (ts : List Token) → TokensFrom ts Label 0 text → AreWords (token_width text) text (sentence ts)
in_front text none [] h =
    let none_there : token_width text ≡ 0 = ended_width text (rw none at h) in
    rw none_there (record { label = refl; operation = operation_is text 0 [] None h })
in_front text none (t ∷ ts) h =
    let start : t.start ≡ 0 = rw none at h.1 in
    let end : t.end ≡ h.0 = omega (arith, h.2, start) in
    let is : IsLongest t.kind h.0 text = rw none at h.3 in
    let rest : TokensFrom ts Operation h.0 (drop h.0 text) = rw (none, end) at h.4 in
    let first : (t.start == 0) ≡ true = rw start refl in
    rw (token_width_is t.kind h.0 text is, first) (record {
      label = piece_at text t 0 h.0 start h.2 ∙ ap (maybe_piece text) (sym (labelled (Some t) ts));
      operation = operation_is text h.0 ts (Some t) rest;
    })

words_are : (text : List ℕ) (ts : List Token) → Tokens text ts → AreWords (in_column_1 token_width text) text (sentence ts)
words_are [] ts h = of_empty ts h
words_are (c ∷ cs) ts h = by_blank (is_blank c) refl h
  where
    by_blank : (b : Bool) → is_blank c ≡ b → TokensFrom ts (cond b Operation Label) 0 (c ∷ cs)
        → AreWords (cond b 0 (token_width (c ∷ cs))) (c ∷ cs) (sentence ts)
    by_blank true e p = behind_blank (c ∷ cs) (blanks_some c cs e) ts p
    by_blank false e p = in_front (c ∷ cs) (blanks_none c cs e) ts p

pub words_are_tokens : WordsLaw
unfolding words_of
words_are_tokens text ts h = let w = words_are text ts h in (w.label, w.operation)
