-- Register lists, bases that are written back, and status registers. ARM SDT 2.50 Reference Guide, chapter on the
-- assembler. Registers are judged by the row, a range that falls too. This project's: the fields of a status
-- register are one or more of f, s, x and c, each at most once.
use Rattle.std.specs.Prelude.{ℕ, ◌+◌, ◌*◌, nat_lt, nat_le, ◌==◌, ◌&&◌, Bool, false, if◌then◌else◌}
use Rattle.std.specs.Prelude.{List, [], ◌∷◌, length, take, drop, codes, Option, Some, None, Result, Ok, Err}
use Rattle.std.specs.List.{count_by}
use Rattle.std.specs.Char.{to_ascii_lowercase}
use Rattle.sdt_fault.specs.declared.kinds.LineKind.{LineKind}
use Rattle.sdt_fault.specs.declared.kinds.LineKind.TheVariants.{Syntax}
use Rattle.asm_model.specs.declared.tokens.Token.{Token}
use Rattle.asm_model.specs.declared.tokens.TokenKind.{TokenKind}
use Rattle.asm_model.specs.declared.tokens.TokenKind.TheVariants as kind
use Rattle.asm_model.specs.declared.operands.Register.{Register}
use Rattle.asm_model.specs.declared.operands.Register.TheVariants as register_is
use Rattle.asm_model.specs.declared.operands.ListItem.{ListItem}
use Rattle.asm_model.specs.declared.operands.ListItem.TheVariants as entry
use Rattle.asm_model.specs.declared.operands.StatusRegister.{StatusRegister}
use Rattle.asm_model.specs.declared.operands.StatusRegister.TheVariants.{Current, Saved}
use Rattle.asm_model.specs.declared.operands.StatusFields.{StatusFields}
use Rattle.asm_model.specs.Directives.{row_of}
use Rattle.asm_model.specs.Forms.{same}
use Rattle.asm_model.specs.Operands.{operands_at}
use Rattle.asm_model.specs.Parts.{piece}
use Rattle.asm_model.specs.Readings.{mapped, on_both}
use Rattle.asm_arm.specs.Operands.{marked, between, register, register_of}

-- a base, and whether `!` stands behind it
abbrev pub base : List ℕ → List Token → Result (Register × Bool) LineKind
base text ts = mapped (λ rn. (rn, (marked text (codes "!") ts).1)) (register text (marked text (codes "!") ts).0)

-- a register to another
abbrev pub range_of : Result Register LineKind → Result Register LineKind → Result ListItem LineKind
range_of a b = on_both (λ first last. entry.Range first last) a b

-- an entry of a list: a register, or all from one to another
abbrev pub item : List ℕ → List Token → Result ListItem LineKind
item text [] = Err Syntax
item text (t ∷ []) = mapped (λ r. entry.One r) (register_of t.kind (piece text t))
item text (t ∷ u ∷ []) = Err Syntax
item text (t ∷ u ∷ v ∷ []) =
    if same (piece text u) (codes "-") then range_of (register_of t.kind (piece text t)) (register_of v.kind (piece text v))
    else Err Syntax
item text (t ∷ u ∷ v ∷ w ∷ ts) = Err Syntax

-- the entries of a list
abbrev pub items : List ℕ → List (List Token) → Result (List ListItem) LineKind
items text [] = Ok []
items text (o ∷ os) = on_both (λ x xs. x ∷ xs) (item text o) (items text os)

-- the list of pc alone
abbrev pub pc_alone : List ListItem
pc_alone = entry.One (register_is.Number 15) ∷ []

abbrev pub is_pc : List ℕ → List Token → Bool
is_pc text [] = false
is_pc text (t ∷ []) = same (piece text t) (codes "{PC}")
is_pc text (t ∷ u ∷ ts) = false

abbrev pub content : List ℕ → Option (List Token) → Result (List ListItem) LineKind
content text None = Err Syntax
content text (Some ts) = items text (operands_at text 0 ts)

-- a register list
abbrev pub list : List ℕ → List Token → Result (List ListItem) LineKind
list text ts = if is_pc text ts then Ok pc_alone else content text (between text (codes "{") (codes "}") ts)

-- a register list, and whether `^` stands behind it
abbrev pub list_marked : List ℕ → List Token × Bool → Result (List ListItem × Bool) LineKind
list_marked text (ts, mark) = mapped (λ l. (l, mark)) (list text ts)

abbrev pub register_list : List ℕ → List Token → Result (List ListItem × Bool) LineKind
register_list text ts = list_marked text (marked text (codes "^") ts)

-- the status registers
unfoldable pub status_named : List ℕ → Option StatusRegister
status_named word = row_of word ((codes "CPSR", Current) ∷ (codes "SPSR", Saved) ∷ [])

unfoldable pub status_begun : List ℕ → Option StatusRegister
status_begun word = row_of word ((codes "CPSR_", Current) ∷ (codes "SPSR_", Saved) ∷ [])

abbrev pub status_of : TokenKind → List ℕ → Result (Option StatusRegister) LineKind
status_of kind.Name s = Ok (status_named s)
status_of _ s = Err Syntax

-- a status register, or a word that names none
abbrev pub status : List ℕ → List Token → Result (Option StatusRegister) LineKind
status text [] = Err Syntax
status text (t ∷ []) = status_of t.kind (piece text t)
status text (t ∷ u ∷ ts) = Err Syntax

-- how often a letter stands among these, in any case
abbrev pub occurrences : ℕ → List ℕ → ℕ
occurrences c letters = count_by (λ l. to_ascii_lowercase l == c) letters

-- the letters of the fields, f, s, x and c from the highest down, each at most once and one at least
abbrev pub are_fields : ℕ → ℕ → ℕ → ℕ → ℕ → Bool
are_fields f s x c n =
    nat_le f 1 && (nat_le s 1 && (nat_le x 1 && (nat_le c 1 && (nat_lt 0 n && f + s + x + c == n))))

abbrev pub fields_with : ℕ → ℕ → ℕ → ℕ → ℕ → Option ℕ
fields_with f s x c n = if are_fields f s x c n then Some (8 * f + 4 * s + 2 * x + c) else None

abbrev pub fields_named : List ℕ → Option ℕ
fields_named letters =
    fields_with (occurrences 102 letters) (occurrences 115 letters) (occurrences 120 letters) (occurrences 99 letters) (length letters)

abbrev pub with_fields : Option StatusRegister → Option ℕ → Option StatusFields
with_fields None m = None
with_fields (Some r) None = None
with_fields (Some r) (Some m) = Some (record { register = r; mask = m })

-- fields of a status register, or a word that names none
abbrev pub fields_of : TokenKind → List ℕ → Result (Option StatusFields) LineKind
fields_of kind.Name s = Ok (with_fields (status_begun (take 5 s)) (fields_named (drop 5 s)))
fields_of _ s = Err Syntax

abbrev pub fields : List ℕ → List Token → Result (Option StatusFields) LineKind
fields text [] = Err Syntax
fields text (t ∷ []) = fields_of t.kind (piece text t)
fields text (t ∷ u ∷ ts) = Err Syntax
