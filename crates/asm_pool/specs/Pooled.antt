-- The literal pools of one area. The LDR pseudo-instruction takes its word from a pool, which stands at the next
-- LTORG or at the area's end (ARM SDT 2.50 Reference Guide, chapter on the assembler); that a pool has one word for
-- each distinct literal, in order of first use, is this project's.
use Rattle.std.specs.Prelude.{◌≡◌, ◌↔◌, ℕ, suc, ◌+◌, Bool, false, ◌==◌, ◌&&◌, not, if◌then◌else◌, IsTrue}
use Rattle.std.specs.Prelude.{List, [], ◌∷◌, ◌++◌, length, map, slice_get, Option, Some, None}
use Rattle.std.specs.Option.{option_map}
use Rattle.std.specs.Str.{bytes_eq}
use Rattle.asm_model.specs.declared.values.Value.{Value}
use Rattle.asm_model.specs.declared.values.Value.TheVariants.{Number, Truth, Words, Place}

-- Entries are numbered from 0 over all pools, in order of first use: those that are placed, each with its offset in
-- the area, and then those that wait for the next pool.
pub record Pooled : Type 0 where
  pub placed : List (Value × ℕ)
  pub waiting : List Value

-- equal numbers, or the same symbol and number; values of the other kinds are never literals, and are the same
-- where they are equal
abbrev pub same_literal : Value → Value → Bool
same_literal (Number m) (Number n) = m == n
same_literal (Truth a) (Truth b) = if a then b else not b
same_literal (Words v) (Words w) = bytes_eq v w
same_literal (Place s p) (Place t q) = bytes_eq s t && p == q
same_literal _ _ = false

-- a place, counted from one entry before
abbrev pub one_later : Option ℕ → Option ℕ
one_later None = None
one_later (Some i) = Some (suc i)

-- the first place of a literal
abbrev pub place_among : Value → List Value → Option ℕ
place_among v [] = None
place_among v (w ∷ ws) = if same_literal v w then Some 0 else one_later (place_among v ws)

-- the entry that has the literal's place among those that wait, or else a new one behind them
abbrev pub entry_at : Option ℕ → Value → Pooled → ℕ × Pooled
entry_at (Some i) v p = (length p.placed + i, p)
entry_at None v p = (length p.placed + length p.waiting, record { placed = p.placed; waiting = p.waiting ++ v ∷ [] })

-- the entry's number of a literal, and the pools with it
abbrev pub noted : Value → Pooled → ℕ × Pooled
noted v p = entry_at (place_among v p.waiting) v p

-- one word each, from an offset on
abbrev pub placed_from : ℕ → List Value → List (Value × ℕ)
placed_from offset [] = []
placed_from offset (v ∷ vs) = (v, offset) ∷ placed_from (offset + 4) vs

-- the pools with one more, at an offset, of the entries that wait
abbrev pub flushed : ℕ → Pooled → Pooled
flushed offset p = record { placed = p.placed ++ placed_from offset p.waiting; waiting = [] }

-- the offset of an entry that is placed
abbrev pub place_of : ℕ → Pooled → Option ℕ
place_of entry p = option_map (λ (e : Value × ℕ). e.1) (slice_get p.placed entry)

-- the literals of all entries, in order
abbrev pub literals_of : Pooled → List Value
literals_of p = map (λ (e : Value × ℕ). e.0) p.placed ++ p.waiting

-- the offsets of the entries that are placed, in order
abbrev pub offsets_of : Pooled → List ℕ
offsets_of p = map (λ (e : Value × ℕ). e.1) p.placed

-- the same literals are equal values
abbrev pub LiteralLaw : Type 0
LiteralLaw = (v w : Value) → IsTrue (same_literal v w) ↔ (v ≡ w)
