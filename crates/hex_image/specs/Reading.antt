-- Reading an image of records: each line that isn't blank says something of it. This project's.
use Rattle.std.specs.Prelude.{◌≡◌, ℕ, ◌+◌, ◌%◌, ◌^◌, ◌==◌, ◌&&◌, ◌||◌, Bool, true, false, nat_lt, min, if◌then◌else◌, List, [], ◌∷◌, ◌++◌, length, Option, Some, None, Result, Ok, Err}
use Rattle.std.specs.List.{list_all, list_any}
use Rattle.std.specs.Str.Lines.{lines}
use Rattle.sdt_fault.specs.declared.answer.Fault.{Fault}
use Rattle.sdt_fault.specs.declared.answer.Fault.TheVariants as fault
use Rattle.sdt_fault.specs.declared.kinds.RecordKind.{RecordKind}
use Rattle.sdt_fault.specs.declared.kinds.RecordKind.TheVariants.{Address, Repeated, Order}
use Rattle.sdt_fault.specs.declared.refusal.Refusal.{Refusal}
use Rattle.sdt_fault.specs.declared.refusal.Refusal.TheVariants.{BadRecord}
use Rattle.hex_image.specs.declared.records.Burn.{Burn}
use Rattle.hex_image.specs.declared.records.Form.{Form}
use Rattle.hex_image.specs.declared.records.Form.TheVariants.{Ihex, Srec}
use Rattle.hex_image.specs.declared.records.Item.{Item}
use Rattle.hex_image.specs.declared.records.Item.TheVariants.{Data, Base, Start, End, EndAt, Nothing}
use Rattle.hex_image.specs.declared.records.Piece.{Piece}
use Rattle.hex_image.specs.Ihex as ihex
use Rattle.hex_image.specs.Srec as srec
use Rattle.hex_image.specs.Images.{end_of, meets_range, piece}

-- what a line of each form says, or the first of what is wrong with it
abbrev pub said : Form → List ℕ → Result Item RecordKind
said Ihex line = ihex.said line
said Srec line = srec.said line

-- space and tab alone
abbrev pub is_blank : List ℕ → Bool
is_blank line = list_all (λ b. b == 32 || b == 9) line

-- ---- what is read so far

pub record State : Type 0 where
  pub base : ℕ
  pub start : ℕ
  pub ended : Bool
  pub pieces : List Piece

abbrev pub first_state : State
first_state = record { base = 0; start = 0; ended = false; pieces = [] }

-- ---- what an item may be behind those before it

-- behind the end nothing may stand
abbrev pub late : State → Option RecordKind
late s = if s.ended then Some Order else None

-- bit 1 alone of a start says neither state
abbrev pub start_flaw : State → ℕ → Option RecordKind
start_flaw s a = if a % 4 == 2 then Some Address else late s

-- bytes end at 2^32 or below, and none is told before
abbrev pub range_flaw : State → ℕ → ℕ → Option RecordKind
range_flaw s base end =
    if nat_lt (2 ^ 32) end then Some Address else (
    if nat_lt base end && list_any (meets_range base end) s.pieces then Some Repeated else late s)

abbrev pub piece_flaw : State → Piece → Option RecordKind
piece_flaw s p = range_flaw s p.base (end_of p)

abbrev pub flaw : State → Item → Option RecordKind
flaw s (Data address bytes) = piece_flaw s (piece (s.base + address) bytes)
flaw s (Start a) = start_flaw s a
flaw s (EndAt a) = start_flaw s a
flaw s other = late s

-- ---- what is read with it

-- a piece for each record with bytes
abbrev pub with_piece : List Piece → Piece → List Piece
with_piece ps p = if nat_lt 0 (length p.bytes) then ps ++ p ∷ [] else ps

abbrev pub after : State → Item → State
after s (Data address bytes) = record s { pieces = with_piece s.pieces (piece (s.base + address) bytes) }
after s (Base a) = record s { base = a }
after s (Start a) = record s { start = a }
after s End = record s { ended = true }
after s (EndAt a) = record s { start = a; ended = true }
after s Nothing = s

abbrev pub by_flaw : State → Option RecordKind → Result State RecordKind
by_flaw s None = Ok s
by_flaw s (Some kind) = Err kind

abbrev pub judged : State → Result Item RecordKind → Result State RecordKind
judged s (Ok i) = by_flaw (after s i) (flaw s i)
judged s (Err kind) = Err kind

abbrev pub with_line : Form → State → List ℕ → Result State RecordKind
with_line form s line = if is_blank line then Ok s else judged s (said form line)

-- ---- the lines in order

-- the image, or the number of the first line at fault, and the first of what is wrong with it
abbrev pub Reading : Type 0
Reading = Result Burn (ℕ × RecordKind)

abbrev pub whole : ℕ → State → Reading
whole line s = if s.ended then Ok (record { pieces = s.pieces; start = s.start }) else Err (line, Order)

abbrev pub behind : ℕ → (State → Reading) → Result State RecordKind → Reading
behind line rest (Ok s) = rest s
behind line rest (Err kind) = Err (line, kind)

-- where no end stands, the line behind the last is at fault
abbrev pub read : Form → ℕ → State → List (List ℕ) → Reading
read form line s [] = whole line s
read form line s (l ∷ ls) = behind line (λ t. read form (line + 1) t ls) (with_line form s l)

-- lines from 2^32 on are told as 2^32 - 1
abbrev pub told_line : ℕ → ℕ
told_line line = min line 0xFFFFFFFF

abbrev pub refusal : Reading → Result Burn Refusal
refusal (Ok b) = Ok b
refusal (Err (line, kind)) = Err (BadRecord [] (told_line line) kind)

-- the image of a text, or the refusal of its first line at fault
abbrev pub burn_of : Form → List ℕ → Result Burn Refusal
burn_of form text = refusal (read form 1 first_state (lines text))

-- ---- what the code's values mean

-- what a call answers is what reading gives, unless memory was refused
abbrev pub Gives : Result Burn Fault → Result Burn Refusal → Type 0
Gives (Ok b) read = read ≡ Ok b
Gives (Err fault.NoMemory) read = Unit {0}
Gives (Err (fault.Refused r)) read = read ≡ Err r
Gives (Err (fault.ReadFault name)) read = ⊥
