-- What the passes of a source answer. This project's.
use Rattle.std.specs.Prelude.{◌≡◌, ℕ, List, Option, Some, None, Result, Ok, Err}
use Rattle.sdt_fault.specs.declared.answer.Fault.{Fault}
use Rattle.sdt_fault.specs.declared.answer.Fault.TheVariants as fault
use Rattle.sdt_fault.specs.declared.refusal.Refusal.{Refusal}
use Rattle.aof_object.specs.declared.records.Object.{Object}
use Rattle.asm_layout.specs.Layout.{IsLayout}
use Rattle.asm_model.specs.declared.lines.Flat.{Flat}
use Rattle.asm_model.specs.declared.statements.Statement.{Statement}
use Rattle.asm_layout.specs.declared.laid.Layout.{Layout}
use Rattle.asm_reading.specs.declared.flat_lines.Reading.{Reading}
use Rattle.asm_reading.specs.declared.flat_lines.Unread.{Unread}
use Rattle.source_model.specs.Objects.{IsObject}
use Rattle.source_model.specs.SourceFaults.{layout_faults}
use Rattle.armasm_core.specs.Assembling.{said_by, line_faults, reading_faults, source_faults, FlatsMake}

-- a fault is the refusal that is told, or want of memory
abbrev pub IsToldAs : Option Refusal → Fault → Type 0
IsToldAs told (fault.Refused r) = told ≡ Some r
IsToldAs told (fault.ReadFault name) = ⊥
IsToldAs told fault.NoMemory = Unit {0}

-- a layout of statements without faults of layout
pub record IsSoundLayout (statements : List Statement) (l : Layout) : Type 0 where
  pub none : layout_faults statements ≡ None
  pub layout : IsLayout statements l

-- of statements, of which so many stand before the first line that can't be read, the last listed first
abbrev pub LaysLines : List Statement → ℕ → Option Unread → Result Layout Fault → Type 0
LaysLines statements before unread (Ok l) = (line_faults statements before unread ≡ None) × IsSoundLayout statements l
LaysLines statements before unread (Err f) = IsToldAs (line_faults statements before unread) f

-- of a reading of these flat lines
abbrev pub LaysOut : List ℕ → List Flat → Reading → Result Layout Fault → Type 0
LaysOut name flats r (Ok l) = (reading_faults name flats r ≡ None) × IsSoundLayout (said_by r) l
LaysOut name flats r (Err f) = IsToldAs (reading_faults name flats r) f

abbrev pub Makes : List ℕ → List Flat → Reading → Result Object Fault → Type 0
Makes name flats r (Ok o) = (source_faults name flats r ≡ None) × IsObject (said_by r) o
Makes name flats r (Err f) = IsToldAs (source_faults name flats r) f

-- what a call gives of flat lines
abbrev pub FlatsGive : List ℕ → List Flat → Result Object Fault → Type 0
FlatsGive name flats (Ok o) = FlatsMake name flats (Ok o)
FlatsGive name flats (Err (fault.Refused r)) = FlatsMake name flats (Err r)
FlatsGive name flats (Err (fault.ReadFault file)) = ⊥
FlatsGive name flats (Err fault.NoMemory) = Unit {0}
