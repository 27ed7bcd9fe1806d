-- The final names of a source without faults are the only ones that a round doesn't change; so they can be found in any
-- order. What is known at a line has its final value there. This project's.
use Rattle.std.specs.Prelude.{◌≡◌, List, [], ◌∷◌, ◌++◌, Ok}
use Rattle.asm_model.specs.declared.exprs.Expr.{Expr}
use Rattle.asm_model.specs.declared.values.Value.{Value}
use Rattle.asm_model.specs.declared.names.LaidName.{LaidName}
use Rattle.asm_model.specs.declared.names.Names.{Names}
use Rattle.asm_model.specs.declared.statements.Statement.{Statement}
use Rattle.asm_model.specs.AtLine.{seen_behind}
use Rattle.asm_model.specs.Extents.{value_there}
use Rattle.asm_model.specs.Labels.{Defined, Equal, defined_by, declared_names}
use Rattle.asm_model.specs.Laid.{LaidLine, lines_of, laid, source_lines, all_entries, final_names, final_value}
use Rattle.asm_model.specs.Sound.{IsSound, ArePlain}

-- names that a round doesn't change are the final ones
abbrev pub NoOtherNamesAre : Type 0
NoOtherNamesAre =
    (statements : List Statement) → IsSound statements → ArePlain statements
    → (names : List LaidName) → all_entries names (source_lines (laid statements)) ≡ names
    → names ≡ final_names (laid statements)

-- at each line, behind those before it, a value that is known is the final one
abbrev pub KnownValuesAreFinal : Type 0
KnownValuesAreFinal =
    (statements : List Statement) → IsSound statements → ArePlain statements
    → (after before : List LaidLine) (l : LaidLine) → laid statements ≡ after ++ l ∷ before
    → (e : Expr) (v : Value) → value_there l.seen e ≡ Ok v
    → final_value (final_names (laid statements)) l.line e ≡ Ok v

-- a name for an expression has a value that is known at its line
abbrev pub IsEqualKnown : Names → Defined → Type 0
IsEqualKnown s (Equal name e) = (v : Value) × (value_there s e ≡ Ok v)
IsEqualKnown s _ = Unit {0}

abbrev pub AreEqualsKnown : List LaidLine → Type 0
AreEqualsKnown [] = Unit {0}
AreEqualsKnown (l ∷ before) = IsEqualKnown l.seen (defined_by l.statement) × AreEqualsKnown before

-- where each name for an expression is known at its line, the names that are known behind the last line are the final ones
abbrev pub KnownNamesAreFinal : Type 0
KnownNamesAreFinal =
    (statements : List Statement) → IsSound statements → ArePlain statements → AreEqualsKnown (laid statements)
    → seen_behind (declared_names statements) (lines_of (laid statements)) ≡ final_names (laid statements)
