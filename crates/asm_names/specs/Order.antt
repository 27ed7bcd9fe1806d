-- An order in which names for expressions can be evaluated: each behind the names that its expression mentions. SDT
-- 2.50 Reference Guide, chapter on the assembler: EQU; this project's.
use Rattle.std.specs.Prelude.{◌≡◌, ℕ, ◌<◌, ◌≤◌, ◌==◌, Bool, true, List, ◌∷◌, ◌++◌, length, slice_get, Some}
use Rattle.std.specs.List.{list_any, count_by, filter_map}
use Rattle.std.specs.Option.{option_map}
use Rattle.asm_model.specs.declared.exprs.Expr.{Expr}
use Rattle.asm_model.specs.Forms.{same}
use Rattle.asm_model.specs.LayoutKinds.{are_settled, settled}

-- whether a name depends neither on itself nor on one that does
abbrev pub is_settled : List (List ℕ × Expr) → List ℕ → Bool
is_settled equals q = list_any (same q) (settled equals)

-- the names that have these numbers
abbrev pub names_at : List (List ℕ × Expr) → List ℕ → List (List ℕ)
names_at equals places = filter_map (λ i. option_map (λ (e : List ℕ × Expr). e.0) (slice_get equals i)) places

abbrev pub is_in : ℕ → List ℕ → Bool
is_in i places = list_any (λ j. j == i) places

-- how often a number stands in a list
abbrev pub times : ℕ → List ℕ → ℕ
times i places = count_by (λ j. j == i) places

pub record IsOrder (equals : List (List ℕ × Expr)) (places : List ℕ) : Type 0 where
  -- the numbers in it are those of expressions
  pub within : (i : ℕ) → is_in i places ≡ true → i < length equals
  -- no number stands in it twice
  pub once : (i : ℕ) → times i places ≤ 1
  -- it has those whose expressions have no name for an expression but settled ones
  pub whole : (i : ℕ) (e : List ℕ × Expr) → slice_get equals i ≡ Some e → is_in i places ≡ are_settled equals (settled equals) e.1.items
  -- an expression mentions no name for an expression but those of numbers before its own
  pub behind : (front : List ℕ) (i : ℕ) (rest : List ℕ) (e : List ℕ × Expr) → places ≡ front ++ i ∷ rest → slice_get equals i ≡ Some e
      → are_settled equals (names_at equals front) e.1.items ≡ true
