-- Pass 2 of a line: what the line puts into its area and what its RN gives, or the kind that is told of the faults of its
-- values. SDT 2.50 Reference Guide, chapter on the assembler; the kinds are this project's.
use Rattle.std.specs.Prelude.{◌≡◌, ℕ, List, map, Option, Some, None, Result, Ok, Err}
use Rattle.sdt_fault.specs.declared.kinds.LineKind.{LineKind}
use Rattle.asm_model.specs.declared.directives.RnOperand.TheVariants as rn
use Rattle.asm_model.specs.declared.directives.DirectiveLine.TheVariants as line
use Rattle.asm_model.specs.declared.statements.What.{What}
use Rattle.asm_model.specs.declared.statements.What.TheVariants as what
use Rattle.asm_model.specs.declared.names.Names.{Names}
use Rattle.asm_model.specs.Extents.{Extent}
use Rattle.asm_model.specs.FaultSets.{first_told}
use Rattle.asm_model.specs.Kinds.{told_kind}
use Rattle.asm_model.specs.LayoutKinds.{fault_kinds}
use Rattle.source_model.specs.Contexts.{Context, number_in}
use Rattle.source_model.specs.Units.{units}
use Rattle.source_model.specs.ValueKinds.{value_kinds}
use Rattle.asm_units.specs.declared.emitted.Emission.{Emission}
use Rattle.asm_units.specs.declared.emitted.LineUnits.{LineUnits}
use Rattle.asm_units.specs.Emitting.{emitted_of, units_in}

-- the number of RN's expression; of other statements nothing is said
abbrev pub IsNumber : Context → What → Result ℕ LineKind → Type 0
IsNumber c (what.Directive (line.Rn (rn.Number e))) x = x ≡ number_in c e
IsNumber c _ x = Unit {0}

-- a line whose values have no fault puts this
pub record PutsUnits (c : Context) (data_names : List (List ℕ)) (sizes : ℕ → ℕ) (s : Names) (e : Extent) (word : Option ℕ) (w : What)
    (u : LineUnits) : Type 0 where
  pub faultless : told_kind (value_kinds c data_names sizes s e word w) ≡ None
  pub all : units c data_names s word w ≡ Ok (map emitted_of (units_in u.units))
  pub number : IsNumber c w u.number

abbrev pub IsPassTwo : Context → List (List ℕ) → (ℕ → ℕ) → Names → Extent → Option ℕ → What → Result LineUnits LineKind → Type 0
IsPassTwo c data_names sizes s e word w (Ok u) = PutsUnits c data_names sizes s e word w u
IsPassTwo c data_names sizes s e word w (Err k) = told_kind (value_kinds c data_names sizes s e word w) ≡ Some k

-- ---- as code joins them

-- the parts of a line without a fault, or the kind that is told of their faults
abbrev pub AreJoined : Result Emission LineKind → Option LineKind → Result ℕ LineKind → Result LineUnits LineKind → Type 0
AreJoined us said number (Ok u) = (us ≡ Ok u.units) × (said ≡ None) × (number ≡ u.number)
AreJoined us said number (Err k) = first_told (told_kind (fault_kinds us)) said ≡ Some k
