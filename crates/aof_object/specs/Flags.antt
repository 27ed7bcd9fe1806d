-- The attributes of areas and of symbols, bit by bit, and the words that name them (SDT 2.50 Reference Guide, ARM Object
-- Format).
use Rattle.std.specs.Prelude.{ℕ, ◌+◌, ◌*◌, ◌%◌, ◌^◌, Bool, false, ◌==◌, if◌then◌else◌}
use Rattle.sdt_word.specs.Numbers.{bit, flag}
use Rattle.aof_object.specs.declared.flags.AreaParts.{AreaParts}
use Rattle.aof_object.specs.declared.flags.Scope.{Scope}
use Rattle.aof_object.specs.declared.flags.Scope.TheVariants.{Local, Exported, Reference}
use Rattle.aof_object.specs.declared.flags.SymbolParts.{SymbolParts}

-- ---- of areas

-- the exponent of 2
abbrev pub alignment : ℕ → ℕ
alignment a = a % 256

abbrev pub is_code : ℕ → Bool
is_code a = bit a 9 == 1

abbrev pub is_zero_initialised : ℕ → Bool
is_zero_initialised a = bit a 12 == 1

abbrev pub is_read_only : ℕ → Bool
is_read_only a = bit a 13 == 1

abbrev pub is_thumb_area : ℕ → Bool
is_thumb_area a = bit a 20 == 1

abbrev pub interworks : ℕ → Bool
interworks a = bit a 22 == 1

abbrev pub area_word : AreaParts → ℕ
area_word p =
    p.alignment + flag p.code * 2 ^ 9 + flag p.zero_initialised * 2 ^ 12 + flag p.read_only * 2 ^ 13
    + flag p.position_independent * 2 ^ 14 + flag p.reentrant * 2 ^ 17 + flag p.thumb * 2 ^ 20
    + flag p.halfword * 2 ^ 21 + flag p.interworking * 2 ^ 22

-- ---- of symbols

-- bits 0 and 1
abbrev pub is_exported : ℕ → Bool
is_exported a = a % 4 == 3

abbrev pub is_reference : ℕ → Bool
is_reference a = a % 4 == 2

abbrev pub is_definition : ℕ → Bool
is_definition a = bit a 0 == 1

abbrev pub is_absolute : ℕ → Bool
is_absolute a = bit a 2 == 1

-- a definition that isn't absolute
abbrev pub is_placed : ℕ → Bool
is_placed a = if bit a 0 == 1 then bit a 2 == 0 else false

abbrev pub is_weak : ℕ → Bool
is_weak a = bit a 4 == 1

-- in a code area
abbrev pub is_datum : ℕ → Bool
is_datum a = bit a 8 == 1

abbrev pub is_thumb_symbol : ℕ → Bool
is_thumb_symbol a = bit a 12 == 1

abbrev pub scope_bits : Scope → ℕ
scope_bits Local = 1
scope_bits Exported = 3
scope_bits Reference = 2

abbrev pub symbol_word : SymbolParts → ℕ
symbol_word p =
    scope_bits p.scope + flag p.absolute * 2 ^ 2 + flag p.weak * 2 ^ 4 + flag p.datum * 2 ^ 8 + flag p.thumb * 2 ^ 12
