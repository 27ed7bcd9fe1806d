-- The lines of a source as its names are made of them, and the names that are known when only some expressions have been
-- evaluated. SDT 2.50 Reference Guide, chapter on the assembler; this project's.
use Rattle.std.specs.Prelude.{◌≡◌, ℕ, List, [], ◌∷◌, ◌++◌, Option, Some, None}
use Rattle.std.specs.List.{slice_get}
use Rattle.asm_model.specs.declared.exprs.Expr.{Expr}
use Rattle.asm_model.specs.declared.exprs.Part.{Part}
use Rattle.asm_model.specs.declared.names.LaidName.{LaidName}
use Rattle.asm_model.specs.declared.statements.Statement.{Statement}
use Rattle.asm_model.specs.AtLine.{with_names}
use Rattle.asm_model.specs.Grammar.{Tree, postfix, IsSpelled}
use Rattle.asm_model.specs.Meaning.{named_in, meaning}
use Rattle.asm_model.specs.Entries.{equal_entry}
use Rattle.asm_model.specs.Labels.{Defined, Equal, defined_by, imported_in, imported_entries, declared_names}
use Rattle.asm_model.specs.Laid.{LaidLine, laid}
use Rattle.asm_model.specs.Sound.{IsSound, ArePlain}
use Rattle.asm_names.specs.Steps.{one_entry}
use Rattle.asm_names.specs.declared.placed_lines.PlacedLine.{PlacedLine}
use Rattle.asm_names.specs.Defining.{own_entry}
use Rattle.asm_names.specs.PlacedLines.{IsLine, line_of}

-- ---- a source

-- these lines, in the order of the source, are the laid ones, of which the last stands first
abbrev pub AreEach : List LaidLine → List PlacedLine → Type 0
AreEach [] xs = xs ≡ []
AreEach (l ∷ before) xs =
    (front : List PlacedLine) × (x : PlacedLine) × (xs ≡ front ++ x ∷ []) × IsLine x l before × AreEach before front

abbrev pub AreLines : List Statement → List PlacedLine → Type 0
AreLines statements lines = AreEach (laid statements) lines

-- tokens spell the expression
abbrev pub IsReadExpr : Expr → Type 0
IsReadExpr e = (ps : List Part) × (t : Tree) × IsSpelled ps t × (e.items ≡ postfix t)

abbrev pub IsReadDefined : Defined → Type 0
IsReadDefined (Equal name e) = IsReadExpr e
IsReadDefined _ = Unit {0}

-- tokens spell the expressions that names are for
abbrev pub AreRead : List Statement → Type 0
AreRead [] = Unit {0}
AreRead (s ∷ before) = IsReadDefined (defined_by s) × AreRead before

-- a source without faults, with its lines, and what is found under the names that it declares
pub record IsSource (statements : List Statement) (lines : List PlacedLine) (declared : List LaidName) : Type 0 where
  pub sound : IsSound statements
  pub plain : ArePlain statements
  pub read : AreRead statements
  pub each : AreLines statements lines
  pub found : (q : List ℕ) → named_in q declared ≡ named_in q (declared_names statements)

-- ---- entries of lines

-- the entry of what a line defines, where names for expressions have those that are known
abbrev pub own_entries : List LaidName → PlacedLine → Defined → List LaidName
own_entries known x (Equal name e) = one_entry (named_in name known)
own_entries known x d = one_entry (own_entry d x.place.area x.place.offset (Some x.size) x.place.thumb_label x.place.map)

abbrev pub line_entries : List LaidName → PlacedLine → List LaidName
line_entries known x = own_entries known x (defined_by x.statement.now) ++ imported_entries (imported_in x.statement.now.what)

-- ---- names for expressions

-- a name that is due its value: the line that defines it
pub record Owed : Type 0 where
  pub name : List ℕ
  pub value : Expr
  pub line : PlacedLine

abbrev pub owed_by : PlacedLine → Defined → List Owed
owed_by x (Equal name e) = (record { name = name; value = e; line = x }) ∷ []
owed_by x _ = []

-- the names for expressions that a line defines
abbrev pub owed_in : PlacedLine → List Owed
owed_in x = owed_by x (defined_by x.statement.now)

abbrev pub equal_pair : Owed → List ℕ × Expr
equal_pair o = (o.name, o.value)

-- the entry that a name has by these names
abbrev pub IsEntryOf : List LaidName → List LaidName → Owed → LaidName → Type 0
IsEntryOf known declared o entry =
    (ps : List Part) (t : Tree) → IsSpelled ps t → o.value.items ≡ postfix t
    → entry ≡ equal_entry declared o.line.place.area o.name (meaning (with_names (line_of o.line) known) t)

abbrev pub IsEntryAt : List LaidName → List LaidName → Option Owed → Option LaidName → Type 0
IsEntryAt known declared None entry = Unit {0}
IsEntryAt known declared (Some o) None = ⊥
IsEntryAt known declared (Some o) (Some entry) = IsEntryOf known declared o entry

-- the names that are known behind some places, where each place's name has its entry by those before
pub data Settles (declared : List LaidName) (all : List Owed) (first : List LaidName) : List ℕ → List LaidName → Type 0 where
  begun : Settles declared all first [] first
  further : (places : List ℕ) (known : List LaidName) (i : ℕ) (entry : Option LaidName) → Settles declared all first places known
      → IsEntryAt known declared (slice_get all i) entry
      → Settles declared all first (places ++ i ∷ []) (known ++ one_entry entry)
