-- What a statement takes up, as code keeps it, and what more its values say. This project's.
use Rattle.std.specs.Prelude.{◌≡◌, ℕ, ◌+◌, ◌%◌, ◌^◌, List, [], Bool, true, false, map, min, Result, Ok}
use Rattle.sdt_fault.specs.declared.kinds.LineKind.{LineKind}
use Rattle.asm_model.specs.declared.exprs.Expr.{Expr}
use Rattle.asm_model.specs.declared.values.Value.{Value}
use Rattle.asm_model.specs.declared.values.Value.TheVariants.{Words}
use Rattle.asm_model.specs.declared.directives.DirectiveLine.{DirectiveLine}
use Rattle.asm_model.specs.declared.directives.DirectiveLine.TheVariants as line
use Rattle.asm_model.specs.declared.directives.Held.{Held}
use Rattle.asm_model.specs.declared.directives.Held.TheVariants as held
use Rattle.asm_model.specs.declared.directives.RnOperand.{RnOperand}
use Rattle.asm_model.specs.declared.directives.RnOperand.TheVariants as rn
use Rattle.asm_model.specs.declared.statements.What.{What}
use Rattle.asm_model.specs.declared.statements.What.TheVariants as what
use Rattle.asm_model.specs.declared.names.Names.{Names}
use Rattle.asm_model.specs.DataItems.{held_by}
use Rattle.asm_model.specs.Extents.{Extent, Block, value_there, number_there, held_size, occupied_extent, extent_of}
use Rattle.asm_model.specs.Laid.{MapStep, Keep, Set, Add, map_step}
use Rattle.asm_model.specs.LayoutKinds.{exponent}
use Rattle.asm_model.specs.Occupied.{Occupied, Unplaced, Opening, Marking, Entering, Items, Zeroes, UpTo, Literals, occupied}
use Rattle.asm_model.specs.Readings.{mapped}
use Rattle.asm_offsets.specs.declared.extents.Extent.{Extent as Code}
use Rattle.asm_offsets.specs.Coded.{extent_of_code}
use Rattle.asm_laying.specs.declared.extents.SizedStatement.{SizedStatement}

-- ---- what a statement takes up

-- the most bytes that code counts
abbrev pub most_bytes : ℕ
most_bytes = 4294967295

-- a statement of more bytes counts as one of the most: it doesn't fit an area either way
abbrev pub capped : Extent → Extent
capped (Block alignment n) = Block alignment (min n most_bytes)
capped e = e

abbrev pub all_capped : Result Extent LineKind → Result Extent LineKind
all_capped r = mapped capped r

abbrev pub coded : Result Code LineKind → Result Extent LineKind
coded r = mapped extent_of_code r

-- ---- the storage map

abbrev pub step_after : ℕ → Names → MapStep → Result ℕ LineKind
step_after map s Keep = Ok map
step_after map s (Set e) = number_there s e
step_after map s (Add e) = mapped (λ n. (map + n) % 2 ^ 32) (number_there s e)

-- the storage map behind a statement, or the fault of its number
abbrev pub map_after : ℕ → Names → What → Result ℕ LineKind
map_after map s w = step_after map s (map_step w)

-- ---- numbers and strings

abbrev pub given_number : Names → RnOperand → Result ℕ LineKind
given_number s (rn.Register n) = Ok 0
given_number s (rn.Number e) = number_there s e

abbrev pub directive_number : Names → DirectiveLine → Result ℕ LineKind
directive_number s (line.Area name a) = exponent s a.alignments
directive_number s (line.Rn r) = given_number s r
directive_number s line.Entry = Ok 0
directive_number s line.End = Ok 0
directive_number s (line.Export n) = Ok 0
directive_number s (line.Import n mark) = Ok 0
directive_number s (line.Extern n mark) = Ok 0
directive_number s (line.Keep n) = Ok 0
directive_number s (line.Equ e) = Ok 0
directive_number s line.Rout = Ok 0
directive_number s (line.Assert e) = Ok 0
directive_number s line.Nofp = Ok 0
directive_number s (line.Opt e) = Ok 0
directive_number s line.Ttl = Ok 0
directive_number s line.Subt = Ok 0
directive_number s (line.Constants item es) = Ok 0
directive_number s (line.Space e) = Ok 0
directive_number s (line.Align b) = Ok 0
directive_number s line.Ltorg = Ok 0
directive_number s line.Data = Ok 0
directive_number s (line.Map e) = Ok 0
directive_number s (line.Field e) = Ok 0
directive_number s line.Code16 = Ok 0
directive_number s line.Code32 = Ok 0

-- the number that a line says which checks ask for; 0 where they ask for none
abbrev pub said_number : Names → What → Result ℕ LineKind
said_number s what.Nothing = Ok 0
said_number s (what.Arm l) = Ok 0
said_number s (what.Thumb l) = Ok 0
said_number s (what.Pseudo l) = Ok 0
said_number s (what.Directive l) = directive_number s l

-- whether a value is a string
abbrev pub is_words : Result Value LineKind → Bool
is_words (Ok (Words w)) = true
is_words _ = false

-- which operands are strings
abbrev pub marks : Names → List Expr → List Bool
marks s es = map (λ e. is_words (value_there s e)) es

-- which values that are held so are strings
abbrev pub held_marks : Names → Held → List Expr → List Bool
held_marks s held.Relocatable es = []
held_marks s (held.Fixed width) es = []
held_marks s held.Strings es = marks s es

abbrev pub occupied_marks : Names → Occupied → List Bool
occupied_marks s Unplaced = []
occupied_marks s (Opening a) = []
occupied_marks s Marking = []
occupied_marks s Entering = []
occupied_marks s (Items item es) = held_marks s (held_by item) es
occupied_marks s (Zeroes e) = []
occupied_marks s (UpTo b) = []
occupied_marks s Literals = []

-- which values are strings by what is known at their line
abbrev pub string_marks : Names → What → List Bool
string_marks s what.Nothing = []
string_marks s (what.Arm l) = []
string_marks s (what.Thumb l) = []
string_marks s (what.Pseudo l) = []
string_marks s (what.Directive l) = occupied_marks s (occupied l)

-- what values that are held so take up, as code keeps it, with its strings
pub record IsHeld (s : Names) (alignment : ℕ) (h : Held) (es : List Expr) (t : SizedStatement) : Type 0 where
  pub extent : coded t.extent ≡ all_capped (Ok (Block alignment (held_size s h es)))
  pub strings : t.strings ≡ held_marks s h es

-- what a directive takes up that occupies this
pub record IsOccupied (s : Names) (o : Occupied) (t : SizedStatement) : Type 0 where
  pub extent : coded t.extent ≡ all_capped (occupied_extent s o)
  pub strings : t.strings ≡ occupied_marks s o

-- what a statement takes up
pub record IsTaken (s : Names) (w : What) (t : SizedStatement) : Type 0 where
  pub extent : coded t.extent ≡ all_capped (extent_of s w)
  pub strings : t.strings ≡ string_marks s w
