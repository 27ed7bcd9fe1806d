-- The tokens of a text, found by computing.
use Rattle.std.proofs.Common.{◌≡◌, ℕ, zero, suc, ◌+◌, ◌<◌, List, [], ◌∷◌, take, drop, Bool, true, false, nat_lt, refl, subst}
use Rattle.std.specs.Prelude.{◌&&◌, not}
use Rattle.std.proofs.lemmas.Bool.{and_parts, ltb-true, not-true}
use Rattle.asm_model.specs.declared.tokens.Due.{Due}
use Rattle.asm_model.specs.declared.tokens.Due.TheVariants as due
use Rattle.asm_model.specs.declared.tokens.Token.{Token}
use Rattle.asm_model.specs.declared.tokens.TokenKind.{TokenKind}
use Rattle.asm_model.specs.Tokens.{IsTokenAt, Tokens, TokensFrom, blanks, due_behind, first_due, is_end, is_operation_sign}
use Rattle.asm_lines.specs.Lengths.{best_of}
use Rattle.asm_lines.proofs.KindLemmas.{best_longest}

abbrev pub token : TokenKind → ℕ → ℕ → Token
token k a b = record { kind = k; start = a; end = b }

-- ---- so many tokens, each of them the best front behind blanks

abbrev front_then : (ℕ → List ℕ → List Token) → ℕ → List ℕ → TokenKind × ℕ → List Token
front_then others at left best = token best.0 at (at + best.1) ∷ others (at + best.1) (drop best.1 left)

abbrev pub fronts : ℕ → ℕ → List ℕ → List Token
fronts zero place rest = []
fronts (suc k) place rest = front_then (fronts k) (place + blanks rest) (drop (blanks rest) rest) (best_of (drop (blanks rest) rest))

-- ---- whether they are tokens, with the line's end behind them

-- the front counts as it does behind the operation
abbrev is_common : Due → List ℕ → Bool
is_common due.Label left = true
is_common due.Operation left = not (is_operation_sign left)
is_common due.Operands left = true
is_common due.Nothing left = false

abbrev stands_then : (Due → List ℕ → Bool) → Due → List ℕ → TokenKind × ℕ → Bool
stands_then others d left best = is_common d left && (nat_lt 0 best.1 && others (due_behind d (take best.1 left)) (drop best.1 left))

abbrev pub stand : ℕ → Due → List ℕ → Bool
stand zero d rest = is_end d rest
stand (suc k) d rest = stands_then (stand k) d (drop (blanks rest) rest) (best_of (drop (blanks rest) rest))

front_is : (d : Due) (left : List ℕ) → is_common d left ≡ true → 0 < (best_of left).1 → IsTokenAt d (best_of left).0 (best_of left).1 left
front_is due.Label left common some = best_longest left some
front_is due.Operation left common some = rw (not-true (is_operation_sign left) common) (best_longest left some)
front_is due.Operands left common some = best_longest left some
front_is due.Nothing left common some = absurd (cc)

fronts_are : (k : ℕ) (d : Due) (place : ℕ) (rest : List ℕ) → stand k d rest ≡ true → TokensFrom (fronts k place rest) d place rest
fronts_are zero d place rest h = h
fronts_are (suc k) d place rest h =
    let left = drop (blanks rest) rest in
    let n = (best_of left).1 in
    let others = stand k (due_behind d (take n left)) (drop n left) in
    let a = and_parts (is_common d left) (nat_lt 0 n && others) h in
    let b = and_parts (nat_lt 0 n) others a.1 in
    let end = place + blanks rest + n in
    (n, refl, refl, front_is d left a.0 (ltb-true 0 n b.0), fronts_are k (due_behind d (take n left)) end (drop n left) b.1)

-- a text has these tokens, so many, where computing finds them
pub tokens_are : (k : ℕ) (text : List ℕ) (ts : List Token) → stand k (first_due text) text ≡ true → fronts k 0 text ≡ ts → Tokens text ts
tokens_are k text ts h e = subst (Tokens text) e (fronts_are k (first_due text) 0 text h)
