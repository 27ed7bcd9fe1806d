-- Each line has tokens, or none.
use Rattle.std.proofs.Common.{◌≡◌, ℕ, zero, suc, ◌+◌, ◌<◌, ◌≤◌, List, [], ◌∷◌, length, take, drop, Bool, true, false, refl, ◌∙◌, ap, arith, length-drop, ◌⊎◌, inl, inr}
use Rattle.std.specs.Prelude.{Option, Some, None}
use Rattle.asm_model.specs.declared.tokens.Due.{Due}
use Rattle.asm_model.specs.declared.tokens.Due.TheVariants.{Label, Operation, Operands, Nothing}
use Rattle.asm_model.specs.declared.tokens.Token.{Token}
use Rattle.asm_model.specs.declared.tokens.TokenKind.{TokenKind}
use Rattle.asm_model.specs.Tokens.{is_operation_sign, blanks, is_end, due_behind, TokensFrom, AreTokens, first_due}
use Rattle.asm_lines.specs.Lengths.{best_of}
use Rattle.asm_lines.specs.Steps.{IsTheToken}
use Rattle.asm_lines.proofs.KindLemmas.{best_longest, best_none}
use Rattle.asm_lines.proofs.ScanLemmas.{longest_is_the, none_is_the, any_is_the, sign_is_the, label_is_the}

-- ---- the token at the front

abbrev TheToken : Due → List ℕ → Type 0
TheToken due rest = (o : Option (TokenKind × ℕ)) × IsTheToken due rest o

longest : (rest : List ℕ) (n : ℕ) → (best_of rest).1 ≡ n → TheToken Operands rest
longest rest zero e = (None, none_is_the rest (best_none rest e))
longest rest (suc n) e =
    (Some (best_of rest), longest_is_the rest (best_of rest).0 (best_of rest).1 (best_longest rest (omega (arith, e))))

any_token : (rest : List ℕ) → TheToken Operands rest
any_token rest = longest rest (best_of rest).1 refl

operation_token : (rest : List ℕ) (b : Bool) → is_operation_sign rest ≡ b → TheToken Operation rest
operation_token rest true e = (Some _, sign_is_the rest e)
operation_token rest false e = let t = any_token rest in (t.0, any_is_the rest t.0 e t.1)

the_token : (due : Due) (rest : List ℕ) → TheToken due rest
the_token Label rest = let t = any_token rest in (t.0, label_is_the rest t.0 t.1)
the_token Operation rest = operation_token rest (is_operation_sign rest) refl
the_token Operands rest = any_token rest
the_token Nothing rest = (None, λ k n p. p)

-- ---- the tokens of a rest

abbrev Found : Due → ℕ → List ℕ → Type 0
Found due place rest =
    ((ts : List Token) × TokensFrom ts due place rest) ⊎ ((ts : List Token) → TokensFrom ts due place rest → ⊥)

abbrev bare : List ℕ → List ℕ
bare rest = drop (blanks rest) rest

no_tokens : (due : Due) (place : ℕ) (rest : List ℕ) → is_end due rest ≡ false → IsTheToken due (bare rest) None
    → (ts : List Token) → TokensFrom ts due place rest → ⊥
no_tokens due place rest e none [] p = let q = p in absurd (cc)
no_tokens due place rest e none (t ∷ ts) p = none t.kind p.0 p.3

module _ (due : Due) (place : ℕ) (rest : List ℕ) (e : is_end due rest ≡ false) (kind : TokenKind) (n : ℕ)
    (the : IsTheToken due (bare rest) (Some (kind, n))) where
  abbrev start : ℕ
  start = place + blanks rest

  abbrev Behind : ℕ → ℕ → List Token → Type 0
  Behind m end ts = TokensFrom ts (due_behind due (take m (bare rest))) end (drop m (bare rest))

  with_token : (ts : List Token) → Behind n (start + n) ts → TokensFrom (record { kind = kind; start = start; end = start + n } ∷ ts) due place rest
  with_token ts p = (n, refl, refl, the.0, p)

  stuck : ((ts : List Token) → Behind n (start + n) ts → ⊥) → (ts : List Token) → TokensFrom ts due place rest → ⊥
  stuck none [] p = let q = p in absurd (cc)
  stuck none (t ∷ ts) p =
      let one = the.1 t.kind p.0 p.3 in
      let end : t.end ≡ start + n = p.2 ∙ ap (λ k. k + p.0) p.1 ∙ ap (λ k. start + k) one.1 in
      none ts (rw (one.1, end) at p.4)

  found_behind : Found (due_behind due (take n (bare rest))) (start + n) (drop n (bare rest)) → Found due place rest
  found_behind (inl found) = inl (record { kind = kind; start = start; end = start + n } ∷ found.0, with_token found.0 found.1)
  found_behind (inr none) = inr (stuck none)

shorter : (rest : List ℕ) (k n f : ℕ) → 0 < n → n ≤ length (drop k rest) → length rest < suc f → length (drop n (drop k rest)) < f
shorter rest k n f a b c = omega (arith, length-drop n (drop k rest), length-drop k rest)

abbrev Finds : ℕ → Type 0
Finds f = (due : Due) (place : ℕ) (rest : List ℕ) → length rest < f → Found due place rest

found_by : (f : ℕ) → Finds f → (due : Due) (place : ℕ) (rest : List ℕ) → length rest < suc f → is_end due rest ≡ false
    → (o : Option (TokenKind × ℕ)) → IsTheToken due (bare rest) o → Found due place rest
found_by f finds due place rest h e None the = inr (no_tokens due place rest e the)
found_by f finds due place rest h e (Some t) the =
    found_behind due place rest e t.0 t.1 the
    (finds (due_behind due (take t.1 (bare rest))) (place + blanks rest + t.1) (drop t.1 (bare rest))
    (shorter rest (blanks rest) t.1 f the.2 the.3 h))

found_at : (f : ℕ) → Finds f → (due : Due) (place : ℕ) (rest : List ℕ) → length rest < suc f → (b : Bool) → is_end due rest ≡ b → Found due place rest
found_at f finds due place rest h true e = inl ([], e)
found_at f finds due place rest h false e = let t = the_token due (bare rest) in found_by f finds due place rest h e t.0 t.1

found : (f : ℕ) → Finds f
found zero = λ due place rest h. absurd (omega arith)
found (suc f) = λ due place rest h. found_at f (found f) due place rest h (is_end due rest) refl

-- ---- lines

scanned : (text : List ℕ) → Found (first_due text) 0 text → (o : Option (List Token)) × AreTokens text o
scanned text (inr none) = (None, none)
scanned text (inl found) = (Some found.0, found.1)

-- a line has tokens, or none
pub some_scan : (text : List ℕ) → (o : Option (List Token)) × AreTokens text o
some_scan text = scanned text (found (length text + 1) (first_due text) 0 text (omega arith))
