-- Relocations: which field each has, and what it names (SDT 2.50 Reference Guide, ARM Object Format, relocation
-- directives).
use Rattle.std.specs.Prelude.{ℕ, ◌+◌, ◌-◌, ◌*◌, ◌%◌, ◌^◌, Bool, ◌==◌, if◌then◌else◌, Option, Some, None}
use Rattle.sdt_word.specs.Numbers.{bit, bits}
use Rattle.aof_object.specs.declared.records.Reloc.{Reloc}
use Rattle.aof_object.specs.declared.relocations.Field.{Field}
use Rattle.aof_object.specs.declared.relocations.FieldKind.{FieldKind}
use Rattle.aof_object.specs.declared.relocations.FieldKind.TheVariants.{Byte, Half, Word, Branch}
use Rattle.aof_object.specs.declared.relocations.RelocationTarget.{RelocationTarget}
use Rattle.aof_object.specs.declared.relocations.RelocationTarget.TheVariants.{Symbol, Area}

-- ---- the field

-- the kind of field, by bits 24 and 25 of the word; bit 0 of an instruction's offset marks Thumb
abbrev pub kind_by : ℕ → Bool → FieldKind
kind_by type thumb =
    if type == 0 then Byte else (if type == 1 then Half else (if type == 2 then Word else Branch thumb))

abbrev pub kind_of : Reloc → FieldKind
kind_of r = kind_by (bits r.word 24 2) (r.offset % 2 == 1)

abbrev pub place_by : ℕ → ℕ → ℕ
place_by type offset = if type == 3 then offset - offset % 2 else offset

abbrev pub field_of : Reloc → Field
field_of r = record { place = place_by (bits r.word 24 2) r.offset; kind = kind_of r }

abbrev pub size_of : FieldKind → ℕ
size_of Byte = 1
size_of Half = 2
size_of _ = 4

-- ---- what it is relative to

-- bit 26: less the base of the area that has the field
abbrev pub is_relative : Reloc → Bool
is_relative r = bit r.word 26 == 1

-- bit 28: based
abbrev pub is_based : Reloc → Bool
is_based r = bit r.word 28 == 1

-- ---- what it names

-- bit 27: by a symbol, and else by an area; the low 24 bits are its number
abbrev pub is_by_symbol : Reloc → Bool
is_by_symbol r = bit r.word 27 == 1

abbrev pub number_named : Reloc → ℕ
number_named r = r.word % 2 ^ 24

abbrev pub target_named : Reloc → RelocationTarget
target_named r = if is_by_symbol r then Symbol (number_named r) else Area (number_named r)

abbrev pub symbol_named : Reloc → Option ℕ
symbol_named r = if is_by_symbol r then Some (number_named r) else None

-- ---- those that are written

abbrev pub word_by_area : ℕ → ℕ → Reloc
word_by_area offset number = record { offset = offset; word = 2 ^ 31 + 2 * 2 ^ 24 + number }

abbrev pub word_by_symbol : ℕ → ℕ → Reloc
word_by_symbol offset number = record { offset = offset; word = 2 ^ 31 + 2 ^ 27 + 2 * 2 ^ 24 + number }

-- relative
abbrev pub branch_by_symbol : ℕ → ℕ → Reloc
branch_by_symbol offset number = record { offset = offset; word = 2 ^ 31 + 2 ^ 27 + 2 ^ 26 + 3 * 2 ^ 24 + number }
