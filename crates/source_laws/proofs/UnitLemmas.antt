-- Things one behind the other fill a stretch of an area.
use Rattle.std.proofs.Common.{◌≡◌, ℕ, ◌+◌, ◌*◌, ◌≤◌, List, [], ◌∷◌, ◌++◌, length, length-append, sym, ◌∙◌, subst, arith, ◌⊎◌, inl, inr}
use Rattle.std.specs.Prelude.{Result, Ok, Err}
use Rattle.sdt_fault.specs.declared.kinds.LineKind.{LineKind}
use Rattle.asm_model.specs.declared.values.Value.{Value}
use Rattle.asm_model.specs.Offsets.{words_from}
use Rattle.source_model.specs.Objects.{Piece, unit_bytes, units_bytes, units_from, Source, literal_stored, word_piece, words_of, IsAmong}
use Rattle.source_model.specs.Units.{Emitted, Word, Stored}
use Rattle.source_laws.specs.Laws.{StandApart}
use Rattle.source_laws.proofs.ListedLemmas.{among_either}

-- these things lie there, and stand apart
pub record Fills (P : Piece → Type 0) (start end : ℕ) : Type 0 where
  pub within : (p : Piece) → P p → (start ≤ p.0) × (p.0 + length (unit_bytes p.1) ≤ end)
  pub apart : (p q : Piece) → P p → P q → (p ≡ q) ⊎ StandApart p q

pub filled_by : (P R : Piece → Type 0) (a b c : ℕ) → b ≤ c → ((p : Piece) → R p → P p) → Fills P a b → Fills R a c
filled_by P R a b c up f h = record {
  within = λ p x. (let i = h.within p (f p x) in (i.0, (let below = i.1 in omega arith)));
  apart = λ p q x y. h.apart p q (f p x) (f q y);
}

-- two stretches, the one behind the other
pub filled_both : (P Q R : Piece → Type 0) (a b c d : ℕ) → a ≤ b → b ≤ c → c ≤ d → ((p : Piece) → R p → P p ⊎ Q p) → Fills P a b → Fills Q c d → Fills R a d
filled_both P Q R a b c d ab bc cd f h k = record { within = λ p x. inside p (f p x); apart = λ p q x y. both p q (f p x) (f q y) }
  where
    inside : (p : Piece) → P p ⊎ Q p → (a ≤ p.0) × (p.0 + length (unit_bytes p.1) ≤ d)
    inside p (inl x) = let i = h.within p x in let low = i.0 in let high = i.1 in (low, omega arith)
    inside p (inr x) = let i = k.within p x in let low = i.0 in let high = i.1 in (omega arith, high)

    before : (p q : Piece) → P p → Q q → p.0 + length (unit_bytes p.1) ≤ q.0
    before p q x y = let high = (h.within p x).1 in let low = (k.within q y).0 in omega arith

    both : (p q : Piece) → P p ⊎ Q p → P q ⊎ Q q → (p ≡ q) ⊎ StandApart p q
    both p q (inl x) (inl y) = h.apart p q x y
    both p q (inl x) (inr y) = inr (inl (before p q x y))
    both p q (inr x) (inl y) = inr (inr (before q p y x))
    both p q (inr x) (inr y) = k.apart p q x y

pub none_fill : (a b : ℕ) → Fills (λ p. ⊥) a b
none_fill a b = record { within = λ p x. absurd x; apart = λ p q x y. absurd x }

one_fills : (at : ℕ) (u : Emitted) → Fills (λ p. p ≡ (at, u)) at (at + length (unit_bytes u))
one_fills at u = record {
  within = λ p e. subst (λ (z : Piece). (at ≤ z.0) × (z.0 + length (unit_bytes z.1) ≤ at + length (unit_bytes u))) (sym e) (omega arith, omega arith);
  apart = λ p q e f. inl (e ∙ sym f);
}

pub units_fill : (at : ℕ) (us : List Emitted) → Fills (λ p. IsAmong p (units_from at us)) at (at + length (units_bytes us))
units_fill at [] = none_fill at (at + length (units_bytes []))
units_fill at (u ∷ us) =
    let size = length-append (unit_bytes u) (units_bytes us) in
    let next = at + length (unit_bytes u) in
    subst (Fills (λ p. IsAmong p (units_from at (u ∷ us))) at) (omega arith)
    (filled_both (λ p. p ≡ (at, u)) (λ p. IsAmong p (units_from next us)) (λ p. IsAmong p (units_from at (u ∷ us))) at next next
    (next + length (units_bytes us))
    (omega arith) (omega arith) (omega arith) (λ p x. x) (one_fills at u) (units_fill next us))

-- the words of a pool
pub words_fill : (s : Source) (area at : ℕ) (ws : List Value) → Fills (λ p. IsAmong p (words_of s area (words_from at ws))) at (at + 4 * length ws)
words_fill s area at [] = none_fill at (at + 4 * 0)
words_fill s area at (w ∷ ws) =
    let here = word_piece at (literal_stored s area w) in
    let later = words_of s area (words_from (at + 4) ws) in
    subst (Fills (λ p. IsAmong p (here ++ later)) at) (omega arith)
    (filled_both (λ p. IsAmong p here) (λ p. IsAmong p later) (λ p. IsAmong p (here ++ later)) at (at + 4) (at + 4) (at + 4 + 4 * length ws)
    (omega arith) (omega arith) (omega arith) (λ p. among_either p here later) (word_fills (literal_stored s area w)) (words_fill s area (at + 4) ws))
  where
    word_fills : (r : Result Stored LineKind) → Fills (λ p. IsAmong p (word_piece at r)) at (at + 4)
    word_fills (Ok x) =
        filled_by (λ p. p ≡ (at, Word x)) (λ p. IsAmong p (word_piece at (Ok x))) at (at + 4) (at + 4) (omega arith)
        (λ p h. elim h [ inl e ↦ e | inr k ↦ absurd k ]) (one_fills at (Word x))
    word_fills (Err k) = none_fill at (at + 4)
