-- Faults of lines that need the whole layout. This project's.
use Rattle.std.specs.Prelude.{◌≡◌, List, [], ◌∷◌, Option, None, Result, Ok, Err}
use Rattle.sdt_fault.specs.declared.answer.Fault.{Fault}
use Rattle.sdt_fault.specs.declared.kinds.LineKind.{LineKind}
use Rattle.asm_checks.specs.declared.late.Position.{Position}
use Rattle.asm_model.specs.declared.statements.Statement.{Statement}
use Rattle.asm_laying.specs.declared.laying.LaidStatement.{LaidStatement}
use Rattle.asm_model.specs.Laid.{LaidLine, reversed}
use Rattle.asm_model.specs.LayoutKinds.{first_late}
use Rattle.asm_checks.specs.Late.{AreWhole}
use Rattle.asm_offsets.specs.declared.extents.LaidPools.{LaidPools}
use Rattle.asm_laying.specs.Laying.{IsStatement}
use Rattle.asm_layout.specs.Layout.{AreStatements, IsTold}

abbrev pub position_of : LaidStatement → Position
position_of x = record { area = x.line.place.area; offset = x.line.place.offset; literal = x.literal }

-- no line is told, or the refusal of the one that is
abbrev pub IsCleared : Option (Statement × LineKind) → Result (Unit {0}) Fault → Type 0
IsCleared told (Ok u) = told ≡ None
IsCleared told (Err f) = IsTold told f

-- the first line of a source with these statements and areas is told
abbrev pub Clears : List LaidPools → List LaidStatement → Result (Unit {0}) Fault → Type 0
Clears pools xs r = (all : List LaidLine) → AreWhole all pools → AreStatements all xs → IsCleared (first_late all [] (reversed all [])) r

-- statements are the lines from a place on, where these stand before it, the nearest first
abbrev pub AreOn : List LaidLine → List LaidLine → List LaidStatement → Type 0
AreOn before [] xs = xs ≡ []
AreOn before (l ∷ rest) xs =
    (x : LaidStatement) × (more : List LaidStatement) × (xs ≡ x ∷ more) × IsStatement x l before × AreOn (l ∷ before) rest more

-- of a source's lines these are left, and none before has such a fault
pub record IsLeft (all : List LaidLine) (left : List LaidStatement) : Type 0 where
  pub before : List LaidLine
  pub rest : List LaidLine
  pub parts : all ≡ reversed rest before
  pub lines : AreOn before rest left
  pub none : first_late all [] (reversed all []) ≡ first_late all before rest
