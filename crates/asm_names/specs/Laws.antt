-- What the definition by rounds of settled names says in plain words: they are the least set of names that has each
-- name whose expression has no name for an expression but those of the set. SDT 2.50 Reference Guide, chapter on the
-- assembler: EQU; this project's.
use Rattle.std.specs.Prelude.{◌≡◌, ℕ, true, List, slice_get, Some}
use Rattle.std.specs.List.{list_any}
use Rattle.asm_model.specs.declared.exprs.Expr.{Expr}
use Rattle.asm_model.specs.Forms.{same}
use Rattle.asm_model.specs.LayoutKinds.{are_settled}

-- a set of names that has each name whose expression it settles
abbrev pub IsClosed : List (List ℕ × Expr) → List (List ℕ) → Type 0
IsClosed equals names =
    (i : ℕ) (e : List ℕ × Expr) → slice_get equals i ≡ Some e → are_settled equals names e.1.items ≡ true → list_any (same e.0) names ≡ true

-- each name of the one set is in the other
abbrev pub AreAmong : List (List ℕ) → List (List ℕ) → Type 0
AreAmong names others = (q : List ℕ) → list_any (same q) names ≡ true → list_any (same q) others ≡ true
