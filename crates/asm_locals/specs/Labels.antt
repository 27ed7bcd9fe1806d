-- What references to local labels name. A reference counts in the stretch of lines of its own line. `%B1` is the nearest
-- label 1 on its line or before, `%F1` the nearest on a later line, and `%1` the one before, or else the later one. SDT
-- 2.50 Reference Guide, chapter on the assembler. This project's: labels are compared as numbers, AREA and ROUT begin a
-- stretch with their own line, and a label on ROUT counts for nothing.
use Rattle.std.specs.Prelude.{ℕ, suc, ◌+◌, ◌-◌, ◌*◌, ◌==◌, nat_lt, Bool, true, false, if◌then◌else◌}
use Rattle.std.specs.Prelude.{List, [], ◌∷◌, length, Option, Some, None}
use Rattle.std.specs.Option.{option_and_then}
use Rattle.asm_model.specs.declared.directives.DirectiveLine.TheVariants as line
use Rattle.asm_model.specs.declared.statements.Statement.{Statement}
use Rattle.asm_model.specs.declared.statements.What.{What}
use Rattle.asm_model.specs.declared.statements.What.TheVariants as what
use Rattle.asm_model.specs.Directives.{or_else}

-- ---- numbers

abbrev pub if_short : ℕ → Option ℕ
if_short n = if nat_lt n 100 then Some n else None

-- the number that one digit or two write
abbrev pub number_in : List ℕ → Option ℕ
number_in (d ∷ []) = if_short (d - 48)
number_in (d ∷ e ∷ []) = if_short ((d - 48) * 10 + (e - 48))
number_in _ = None

-- the number of a local label, which a line keeps as its digits behind a bar
abbrev pub label_number : Option (List ℕ) → Option ℕ
label_number (Some (c ∷ digits)) = if c == 124 then number_in digits else None
label_number _ = None

abbrev pub number_on : Option (List ℕ) → What → Option ℕ
number_on label (what.Directive line.Rout) = None
number_on label _ = label_number label

-- the number of the local label of a statement
abbrev pub local_number : Statement → Option ℕ
local_number s = number_on s.label s.what

-- ---- labels of a number

abbrev pub begins_stretch : What → Bool
begins_stretch (what.Directive (line.Area name attributes)) = true
begins_stretch (what.Directive line.Rout) = true
begins_stretch _ = false

abbrev pub is_number : ℕ → Option ℕ → Bool
is_number n None = false
is_number n (Some m) = m == n

-- the nearest statement with the label, among these of which the last stands first; statements are counted from 0
abbrev pub label_behind : List Statement → ℕ → Option ℕ
label_behind [] n = None
label_behind (s ∷ before) n =
    if is_number n (local_number s) then Some (length before) else if begins_stretch s.what then None else label_behind before n

-- the nearest one among later statements, which are counted from k on
abbrev pub label_ahead : ℕ → List Statement → ℕ → Option ℕ
label_ahead k [] n = None
label_ahead k (s ∷ rest) n =
    if begins_stretch s.what then None else if is_number n (local_number s) then Some k else label_ahead (suc k) rest n

-- ---- references

-- the number in what stands behind the percent sign of a reference: with this letter or with none, and not with the other
abbrev pub number_with : ℕ → ℕ → List ℕ → Option ℕ
number_with letter other [] = None
number_with letter other (c ∷ cs) = if c == letter then number_in cs else if c == other then None else number_in (c ∷ cs)

abbrev pub number_behind : ℕ → ℕ → List ℕ → Option ℕ
number_behind letter other [] = None
number_behind letter other (percent ∷ cs) = number_with letter other cs

-- what a reference names among the labels before, and among the later ones
abbrev pub back_to : (ℕ → Option ℕ) → List ℕ → Option ℕ
back_to labels text = option_and_then labels (number_behind 66 70 text)

abbrev pub forth_to : (ℕ → Option ℕ) → List ℕ → Option ℕ
forth_to labels text = option_and_then labels (number_behind 70 66 text)

-- the statement that a reference names, on a statement with those before it and behind those that follow
abbrev pub target : List Statement → List Statement → List ℕ → Option ℕ
target upto rest text = or_else (back_to (label_behind upto) text) (forth_to (label_ahead (length upto) rest) text)
