-- The first lines of a source, and the first of them with a fault that is told at it. Statements and laid lines are listed
-- with the nearest first. This project's.
use Rattle.std.specs.Prelude.{ℕ, ◌-◌, List, drop, length, Option}
use Rattle.sdt_fault.specs.declared.kinds.LineKind.{LineKind}
use Rattle.asm_model.specs.declared.statements.Statement.{Statement}
use Rattle.asm_model.specs.Laid.{LaidLine, laid}
use Rattle.asm_model.specs.LayoutKinds.{equals_in, settled}
use Rattle.source_model.specs.Registers.{register_names}
use Rattle.source_model.specs.SourceFaults.{first_laid}

-- the first n lines of a source, or all
abbrev pub front_lines : List Statement → ℕ → List LaidLine
front_lines statements n = drop (length statements - n) (laid statements)

-- the first faulty line among them, where the names of the whole source count
abbrev pub front_laid : List Statement → ℕ → Option (Statement × LineKind)
front_laid statements n = first_laid (register_names statements) (settled (equals_in statements)) statements (front_lines statements n)
