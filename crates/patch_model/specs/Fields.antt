-- What relocation directives add to their fields (SDT 2.50 Reference Guide, ARM Object Format, relocation directives;
-- that a label of Thumb code counts 1 more in a word is this project's).
use Rattle.std.specs.Prelude.{ℕ, ◌+◌, ◌*◌, Bool, true, false, not, ◌&&◌, ◌==◌, if◌then◌else◌, List, [], ◌∷◌, take, drop, Option}
use Rattle.std.specs.List.{filter}
use Rattle.std.specs.Option.{is_some}
use Rattle.sdt_word.specs.Numbers.{flag}
use Rattle.sdt_word.specs.Bytes.{number_of}
use Rattle.aof_object.specs.declared.records.Reloc.{Reloc}
pub use Rattle.aof_object.specs.declared.relocations.Field.{Field}
pub use Rattle.aof_object.specs.declared.relocations.FieldKind.{FieldKind as Kind}
pub use Rattle.aof_object.specs.declared.relocations.FieldKind.TheVariants.{Byte, Half, Word, Branch}
pub use Rattle.aof_object.specs.Relocations.{kind_by, kind_of, place_by, field_of, size_of, is_relative, is_by_symbol, number_named}

-- ---- what they name

-- a place in an area of an object
pub record Home : Type 0 where
  pub object : ℕ
  pub area : ℕ
  pub offset : ℕ

-- a symbol: its number, whether it is of Thumb code, whether it is a datum there, and where it stands, if it stands
-- in an area
pub record Meant : Type 0 where
  pub number : ℕ
  pub thumb : Bool
  pub datum : Bool
  pub home : Option Home

-- the areas' bases and the symbols of one object, by their numbers. Addresses are counted without wrapping, so the
-- end of memory is 2^32.
pub record Values : Type 0 where
  pub base : ℕ → ℕ
  pub symbol : ℕ → Meant

abbrev pub value_named : Values → Reloc → ℕ
value_named values r = if is_by_symbol r then (values.symbol (number_named r)).number else values.base (number_named r)

-- a label of Thumb code that isn't a datum
abbrev pub is_thumb_label : Meant → Bool
is_thumb_label m = is_some m.home && (m.thumb && not m.datum)

-- the 1 that such a label counts more in a word, where the directive isn't relative
abbrev pub mark_in : Kind → Bool → Bool → Bool → ℕ
mark_in Word relative by_symbol label = flag (not relative && (by_symbol && label))
mark_in _ relative by_symbol label = 0

abbrev pub mark_of : Values → Reloc → ℕ
mark_of values r = mark_in (kind_of r) (is_relative r) (is_by_symbol r) (is_thumb_label (values.symbol (number_named r)))

-- ---- what the directives of a field do

abbrev pub is_same_kind : Kind → Kind → Bool
is_same_kind Byte Byte = true
is_same_kind Half Half = true
is_same_kind Word Word = true
is_same_kind (Branch a) (Branch b) = if a then b else not b
is_same_kind _ _ = false

abbrev pub is_field : Field → Reloc → Bool
is_field f r = (field_of r).place == f.place && is_same_kind (kind_of r) f.kind

-- those of the field, in their order
abbrev pub directives : List Reloc → Field → List Reloc
directives relocs f = filter (is_field f) relocs

-- what they add, and what they take away: the base of the field's area, for each relative one
abbrev pub added : Values → List Reloc → ℕ
added values [] = 0
added values (r ∷ rs) = value_named values r + mark_of values r + added values rs

abbrev pub taken : ℕ → List Reloc → ℕ
taken base [] = 0
taken base (r ∷ rs) = base * flag (is_relative r) + taken base rs

-- ---- what a field holds

abbrev pub number_in : List ℕ → Field → ℕ
number_in bytes f = number_of (take (size_of f.kind) (drop f.place bytes))
