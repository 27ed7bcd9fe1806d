-- What is judged of each row of an object's tables, in the order of the checks, apart from names that
-- can't be read: the first check that fails, with its word's place in the row. None where all pass.
-- (SDT 2.50 Reference Guide, ARM Object Format; the limits of the alignment and of the size, the
-- refused bits and the order are this project's.)
use Rattle.std.specs.Prelude.{ℕ, ◌+◌, ◌%◌, ◌^◌, Bool, nat_lt, ◌==◌, if◌then◌else◌, Option, Some, None}
use Rattle.sdt_word.specs.Numbers.{bit, bits}
use Rattle.sdt_fault.specs.declared.kinds.FileKind.{FileKind}
use Rattle.sdt_fault.specs.declared.kinds.FileKind.TheVariants.{Repeated, Attribute, Alignment, Size, Count, Type1, Index, Area, Value, Entry}
use Rattle.aof_object.specs.declared.checks.Flaw.{Flaw}
use Rattle.aof_object.specs.declared.checks.Home.{Home}
use Rattle.aof_object.specs.declared.checks.Home.TheVariants.{Unknown, Nowhere, Within}
unfoldable pub use Rattle.aof_object.specs.Flags.{is_exported, is_placed}

abbrev pub flaw : ℕ → FileKind → Option Flaw
flaw place kind = Some (record { place = place; kind = kind })

-- ---- areas

-- the bits of an area's attributes that are refused, as a sum: absolute (8), common (10, 11), debugging
-- (15), and the code bits (20 to 27) where it is no code (9)
abbrev pub refused_area_bits : ℕ → ℕ
refused_area_bits a = bit a 8 + bit a 10 + bit a 11 + bit a 15 + (if bit a 9 == 1 then 0 else bits a 20 8)

-- how many relocations stand where none may: in a zero-initialised area (12)
abbrev pub misplaced : ℕ → ℕ → ℕ
misplaced attributes count = if bit attributes 12 == 1 then count else 0

unfoldable pub area_flaw : Bool → ℕ → ℕ → ℕ → ℕ → Option Flaw
area_flaw repeated attributes size count base =
    if repeated then flaw 0 Repeated else (
    if refused_area_bits attributes == 0 then (
    if nat_lt (attributes % 256) 2 then flaw 4 Alignment else (
    if nat_lt 16 (attributes % 256) then flaw 4 Alignment else (
    if size % 4 == 0 then (
    if nat_lt (2 ^ 24) size then flaw 8 Size else (
    if misplaced attributes count == 0 then (
    if base == 0 then None else flaw 16 Attribute)
    else flaw 12 Count))
    else flaw 8 Size)))
    else flaw 4 Attribute)

-- ---- relocations

-- how many symbols or, where bit 27 is clear, areas the number in a relocation's low 24 bits may name
abbrev pub named_by : ℕ → ℕ → ℕ → ℕ
named_by areas symbols word = if bit word 27 == 1 then symbols else areas

unfoldable pub reloc_flaw : ℕ → ℕ → ℕ → Option Flaw
reloc_flaw areas symbols word =
    if bit word 31 == 1 then (
    if nat_lt (word % 2 ^ 24) (named_by areas symbols word) then None else flaw 4 Index)
    else flaw 4 Type1

-- ---- symbols

-- the bits of a symbol's attributes that are refused, as a sum
abbrev pub refused_symbol_bits : ℕ → ℕ
refused_symbol_bits a = bit a 3 + bit a 5 + bit a 6

-- the area that a symbol tells: none at all, none of the object's, or one of this size
unfoldable pub home_flaw : Bool → ℕ → Home → Option Flaw
home_flaw placed value Unknown = flaw 12 Area
home_flaw placed value Nowhere = if placed then flaw 12 Area else None
home_flaw placed value (Within size) = if placed then (if nat_lt size value then flaw 8 Value else None) else None

unfoldable pub symbol_flaw : Bool → ℕ → ℕ → Home → Option Flaw
symbol_flaw repeated attributes value home =
    if repeated then flaw 0 Repeated else (
    if refused_symbol_bits attributes == 0 then (
    if attributes % 4 == 0 then flaw 4 Attribute else home_flaw (is_placed attributes) value home)
    else flaw 4 Attribute)

-- ---- the entry

-- what an offset leaves over where instructions of the area's kind stand: half-words with bit 20
abbrev pub left_over : ℕ → ℕ → ℕ
left_over attributes offset = if bit attributes 20 == 1 then offset % 2 else offset % 4

unfoldable pub entry_flaw : ℕ → ℕ → ℕ → Option Flaw
entry_flaw attributes size offset =
    if nat_lt offset size then (if left_over attributes offset == 0 then None else flaw 20 Entry) else flaw 20 Entry
