-- What the flat lines of a source say. A source begins in ARM state, CODE16 and CODE32 change the state of the lines behind
-- them, and each line is read in its own. END says nothing more here: expansion has ended the file at it. SDT 2.50 Reference
-- Guide, chapter on the assembler. This project's: a line that can't be read changes no state.
use Rattle.std.specs.Prelude.{◌≡◌, ℕ, List, [], ◌∷◌, ◌++◌, length, Bool, true, false, if◌then◌else◌, Option, Some, None, Ok, Err}
use Rattle.sdt_fault.specs.declared.kinds.LineKind.{LineKind}
use Rattle.asm_locals.specs.Naming.{in_names}
use Rattle.asm_model.specs.declared.lines.Flat.{Flat}
use Rattle.asm_model.specs.declared.statements.Statement.{Statement}
use Rattle.asm_model.specs.Before.{state_behind}
use Rattle.asm_model.specs.Directives.{or_else}
use Rattle.asm_model.specs.Says.{Said}
use Rattle.asm_reading.specs.declared.flat_lines.Reading.{Reading}
use Rattle.asm_reading.specs.declared.flat_lines.Unread.{Unread}
use Rattle.asm_reading.specs.Says.{SaysBy}

-- ---- what lines say

-- the state of the next line
abbrev pub state_after : Bool → Said → Bool
state_after thumb (Ok (Some s)) = state_behind s.what thumb
state_after thumb (Ok None) = thumb
state_after thumb (Err k) = thumb

-- lines with what they say, the first of them in this state
abbrev pub Say : Bool → List Flat → List (Flat × Said) → Type 0
Say thumb [] [] = Unit {0}
Say thumb [] (p ∷ ps) = ⊥
Say thumb (f ∷ fs) [] = ⊥
Say thumb (f ∷ fs) (p ∷ ps) = (p.0 ≡ f) × SaysBy thumb f p.1 × Say (state_after thumb p.1) fs ps

-- ---- what is kept of them

abbrev pub statement_in : Said → List Statement
statement_in (Ok (Some s)) = s ∷ []
statement_in (Ok None) = []
statement_in (Err k) = []

abbrev pub statements_in : List (Flat × Said) → List Statement
statements_in [] = []
statements_in (p ∷ ps) = statement_in p.1 ++ statements_in ps

abbrev pub unread_line : Flat → LineKind → Unread
unread_line f k = record { source = f.source; number = f.number; kind = k }

abbrev pub unread_in : Flat → Said → Option Unread
unread_in f (Ok s) = None
unread_in f (Err k) = Some (unread_line f k)

abbrev pub first_unread : List (Flat × Said) → Option Unread
first_unread [] = None
first_unread (p ∷ ps) = or_else (unread_in p.0 p.1) (first_unread ps)

abbrev pub is_unread : Said → Bool
is_unread (Ok s) = false
is_unread (Err k) = true

-- the lines before the first that can't be read
abbrev pub read_first : List (Flat × Said) → List (Flat × Said)
read_first [] = []
read_first (p ∷ ps) = if is_unread p.1 then [] else p ∷ read_first ps

-- how many statements stand there behind one more, of so many in all
abbrev pub counted : Option Unread → ℕ → ℕ → ℕ
counted None before all = all
counted (Some u) before all = before

abbrev pub before_behind : Said → Option Unread → ℕ → ℕ → ℕ
before_behind (Ok (Some s)) u before all = counted u before all
before_behind (Ok None) u before all = before
before_behind (Err k) u before all = before

pub record Keeps (f : Flat) (s : Said) (old new : Reading) : Type 0 where
  pub kept : new.statements.items ≡ old.statements.items ++ statement_in s
  pub told : new.unread ≡ or_else old.unread (unread_in f s)
  pub counts : new.before ≡ before_behind s old.unread old.before (length new.statements.items)

-- the statements of the lines that can be read, as they are written, the first line that can't be read, and how many
-- statements stand before it
pub record IsWritten (lines : List Flat) (r : Reading) : Type 0 where
  pub says : List (Flat × Said)
  pub say : Say false lines says
  pub statements : r.statements.items ≡ statements_in says
  pub unread : r.unread ≡ first_unread says
  pub before : r.before ≡ length (statements_in (read_first says))

-- the same, with names for local labels
pub record IsReading (lines : List Flat) (r : Reading) : Type 0 where
  pub says : List (Flat × Said)
  pub say : Say false lines says
  pub statements : r.statements.items ≡ in_names (statements_in says)
  pub unread : r.unread ≡ first_unread says
  pub before : r.before ≡ length (statements_in (read_first says))
