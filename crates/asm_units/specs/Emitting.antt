-- What a statement puts into its area, as code keeps it. This project's.
use Rattle.std.specs.Prelude.{List, [], ◌∷◌, ◌++◌, map, Result}
use Rattle.sdt_fault.specs.declared.kinds.LineKind.{LineKind}
use Rattle.asm_model.specs.Readings.{mapped, on_both}
use Rattle.source_model.specs.Units.{RelocationTarget, Nothing, ByArea, BySymbol, Stored, Emitted, Bytes, Word, Instruction, Half, LinkPair}
use Rattle.asm_units.specs.declared.emitted.RelocationTarget.{RelocationTarget as TargetCode}
use Rattle.asm_units.specs.declared.emitted.RelocationTarget.TheVariants as target
use Rattle.asm_units.specs.declared.emitted.Stored.{Stored as StoredCode}
use Rattle.asm_units.specs.declared.emitted.Emission.{Emission}
use Rattle.asm_units.specs.declared.emitted.Emission.TheVariants as emission
use Rattle.asm_units.specs.declared.emitted.Emitted.{Emitted as Code}
use Rattle.asm_units.specs.declared.emitted.Emitted.TheVariants as code

abbrev pub target_of : TargetCode → RelocationTarget
target_of target.Nothing = Nothing
target_of (target.Area n) = ByArea n
target_of (target.Symbol s) = BySymbol s

abbrev pub stored_of : StoredCode → Stored
stored_of w = record { number = w.number; target = target_of w.target }

abbrev pub emitted_of : Code → Emitted
emitted_of (code.Bytes b) = Bytes b
emitted_of (code.Word n t) = Word (record { number = n; target = target_of t })
emitted_of (code.Instruction i s) = Instruction i s
emitted_of (code.Half i) = Half i
emitted_of (code.LinkPair first second s) = LinkPair first second s

-- the units of a statement
abbrev pub units_in : Emission → List Code
units_in emission.Nothing = []
units_in (emission.One u) = u ∷ []
units_in (emission.Several us) = us.items

-- all units of a statement, or the kind of its fault
abbrev pub all_emitted : Result Emission LineKind → Result (List Emitted) LineKind
all_emitted r = mapped (λ (us : Emission). map emitted_of (units_in us)) r

-- units with one more behind them
abbrev pub with_next : Result (List Emitted) LineKind → Result Emitted LineKind → Result (List Emitted) LineKind
with_next us u = on_both (λ (xs : List Emitted) (x : Emitted). xs ++ x ∷ []) us u
