-- What a statement defines: a label, a name for an expression, a field of the storage map, a name for a register; and
-- besides a name that it imports. A label on ROUT names nothing. SDT 2.50 Reference Guide, chapter on the assembler.
use Rattle.std.specs.Prelude.{ℕ, ◌==◌, List, [], ◌∷◌, ◌++◌, Bool, false, Option, Some, None}
use Rattle.asm_model.specs.declared.exprs.Expr.{Expr}
use Rattle.asm_model.specs.declared.names.LaidName.{LaidName}
use Rattle.asm_model.specs.declared.directives.RnOperand.{RnOperand}
use Rattle.asm_model.specs.declared.directives.DirectiveLine.{DirectiveLine}
use Rattle.asm_model.specs.declared.directives.DirectiveLine.TheVariants as line
use Rattle.asm_model.specs.declared.statements.Statement.{Statement}
use Rattle.asm_model.specs.declared.statements.What.{What}
use Rattle.asm_model.specs.declared.statements.What.TheVariants as what
use Rattle.asm_model.specs.Before.{is_thumb_label}
use Rattle.asm_model.specs.Entries.{imported_entry, later_entry}

pub data Defined : Type 0 where
  Unnamed : Defined
  Label : List ℕ → Defined
  Equal : List ℕ → Expr → Defined
  MapField : List ℕ → Defined
  RegisterName : List ℕ → RnOperand → Defined

abbrev pub directive_defines : List ℕ → DirectiveLine → Defined
directive_defines name (line.Area symbol a) = Label name
directive_defines name line.Entry = Label name
directive_defines name line.End = Label name
directive_defines name (line.Export symbol) = Label name
directive_defines name (line.Import symbol mark) = Label name
directive_defines name (line.Extern symbol mark) = Label name
directive_defines name (line.Keep symbol) = Label name
directive_defines name (line.Equ e) = Equal name e
directive_defines name (line.Rn r) = RegisterName name r
directive_defines name line.Rout = Unnamed
directive_defines name (line.Assert e) = Label name
directive_defines name line.Nofp = Label name
directive_defines name (line.Opt e) = Label name
directive_defines name line.Ttl = Label name
directive_defines name line.Subt = Label name
directive_defines name (line.Constants item es) = Label name
directive_defines name (line.Space e) = Label name
directive_defines name (line.Align b) = Label name
directive_defines name line.Ltorg = Label name
directive_defines name line.Data = Label name
directive_defines name (line.Map e) = Label name
directive_defines name (line.Field e) = MapField name
directive_defines name line.Code16 = Label name
directive_defines name line.Code32 = Label name

abbrev pub what_defines : List ℕ → What → Defined
what_defines name what.Nothing = Label name
what_defines name (what.Arm l) = Label name
what_defines name (what.Thumb l) = Label name
what_defines name (what.Pseudo l) = Label name
what_defines name (what.Directive l) = directive_defines name l

abbrev pub field_defines : Option (List ℕ) → What → Defined
field_defines None w = Unnamed
field_defines (Some name) w = what_defines name w

abbrev pub defined_by : Statement → Defined
defined_by s = field_defines s.label s.what

-- whether a name is that of a local label: it begins with a line feed, which no line holds
abbrev pub is_hidden : List ℕ → Bool
is_hidden [] = false
is_hidden (c ∷ cs) = c == 10

abbrev pub directive_imports : DirectiveLine → Option (List ℕ)
directive_imports (line.Area name a) = None
directive_imports line.Entry = None
directive_imports line.End = None
directive_imports (line.Export name) = None
directive_imports (line.Import name mark) = Some name
directive_imports (line.Extern name mark) = Some name
directive_imports (line.Keep name) = None
directive_imports (line.Equ e) = None
directive_imports (line.Rn r) = None
directive_imports line.Rout = None
directive_imports (line.Assert e) = None
directive_imports line.Nofp = None
directive_imports (line.Opt e) = None
directive_imports line.Ttl = None
directive_imports line.Subt = None
directive_imports (line.Constants item es) = None
directive_imports (line.Space e) = None
directive_imports (line.Align b) = None
directive_imports line.Ltorg = None
directive_imports line.Data = None
directive_imports (line.Map e) = None
directive_imports (line.Field e) = None
directive_imports line.Code16 = None
directive_imports line.Code32 = None

-- the name that a statement imports
abbrev pub imported_in : What → Option (List ℕ)
imported_in what.Nothing = None
imported_in (what.Arm l) = None
imported_in (what.Thumb l) = None
imported_in (what.Pseudo l) = None
imported_in (what.Directive l) = directive_imports l

abbrev pub imported_entries : Option (List ℕ) → List LaidName
imported_entries None = []
imported_entries (Some name) = imported_entry name ∷ []

-- ---- all names of a source, which mean something later

abbrev pub declared_entries : Defined → Statement → List Statement → List LaidName
declared_entries Unnamed s before = []
declared_entries (Label name) s before = later_entry name (is_thumb_label s before) ∷ []
declared_entries (Equal name e) s before = later_entry name false ∷ []
declared_entries (MapField name) s before = later_entry name false ∷ []
declared_entries (RegisterName name r) s before = later_entry name false ∷ []

abbrev pub declared_imports : Option (List ℕ) → List LaidName
declared_imports None = []
declared_imports (Some name) = later_entry name false ∷ []

abbrev pub declared_names : List Statement → List LaidName
declared_names [] = []
declared_names (s ∷ before) =
    declared_names before ++ declared_entries (defined_by s) s before ++ declared_imports (imported_in s.what)
