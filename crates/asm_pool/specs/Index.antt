-- The code's fields: entries and their offsets, and a map from literals to the numbers of waiting entries. This
-- project's.
use Rattle.std.specs.Prelude.{◌≡◌, ℕ, ◌+◌, ◌^◌, ◌≤◌, List, [], ◌∷◌, length, drop, Option, Some, None}
use Rattle.std.specs.List.{zip}
use Rattle.std.specs.BTreeMap.{BTreeMap, get}
use Rattle.asm_model.specs.declared.values.Value.{Value}
use Rattle.asm_model.specs.contracts.values.ValueOrd.TheImpl as order
use Rattle.asm_pool.specs.Pooled.{Pooled, place_among}

abbrev pub Numbers : Type 0
Numbers = BTreeMap Value ℕ

abbrev pub number_in : Numbers → Value → Option ℕ
number_in m q = get (order.ghosts).cmp m q

-- the number of an entry, counted behind those that are placed
abbrev pub numbered : ℕ → Option ℕ → Option ℕ
numbered placed None = None
numbered placed (Some i) = Some (placed + i)

-- each literal has the number of its first place in the list, which is counted from a number on
abbrev pub IsIndexOf : ℕ → List Value → Numbers → Type 0
IsIndexOf first waiting m = (q : Value) → number_in m q ≡ numbered first (place_among q waiting)

-- the first entries are placed
abbrev pub pooled : List Value → List ℕ → Pooled
pooled literals offsets = record { placed = zip literals offsets; waiting = drop (length offsets) literals }

-- what the fields keep: there are at most 2^24 entries
pub record IsKept (literals : List Value) (offsets : List ℕ) (index : Numbers) : Type 0 where
  pub within : length offsets ≤ length literals
  pub few : length literals ≤ 2 ^ 24
  pub found : IsIndexOf (length offsets) (drop (length offsets) literals) index

-- the offsets of words, one for each literal
abbrev pub offsets_from : ℕ → List Value → List ℕ
offsets_from at [] = []
offsets_from at (v ∷ vs) = at ∷ offsets_from (at + 4) vs
