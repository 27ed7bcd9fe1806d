-- A line of Intel HEX: `:`, and in pairs of digits the length, the address, the type, the bytes, and the byte that makes the
-- sum of all 0 modulo 256 (Intel, Hexadecimal Object File Format Specification: types 00 to 05). The address of other
-- types than data isn't looked at, which is this project's choice.
use Rattle.std.specs.Prelude.{ℕ, ◌+◌, ◌*◌, ◌%◌, ◌^◌, ◌==◌, ◌&&◌, not, Bool, true, nat_eq, nat_lt, sum, if◌then◌else◌, List, length, take, drop, slice_index, Option, Some, None, Result, Ok, Err, codes}
use Rattle.std.specs.List.{starts_with}
use Rattle.sdt_fault.specs.declared.kinds.RecordKind.{RecordKind}
use Rattle.sdt_fault.specs.declared.kinds.RecordKind.TheVariants.{Syntax, Length, Sum, RecordType}
use Rattle.hex_image.specs.declared.records.Item.{Item}
use Rattle.hex_image.specs.declared.records.Item.TheVariants.{Data, Base, Start, End}
use Rattle.hex_image.specs.Digits.{digits_in, half, word}

-- whether a record of the type may have so many bytes
abbrev pub fits : ℕ → ℕ → Bool
fits kind count =
    if kind == 1 then count == 0 else (
    if kind == 2 then count == 2 else (
    if kind == 3 then count == 4 else (
    if kind == 4 then count == 2 else (
    if kind == 5 then count == 4 else true))))

-- length, two bytes of the address, type, bytes, sum
abbrev pub is_long : List ℕ → Bool
is_long record_bytes =
    length record_bytes == slice_index record_bytes 0 + 5 && fits (slice_index record_bytes 3) (slice_index record_bytes 0)

-- the first of what is wrong with a record
abbrev pub flaw : List ℕ → Option RecordKind
flaw record_bytes =
    if not (is_long record_bytes) then Some Length else (
    if not (sum record_bytes % 256 == 0) then Some Sum else (
    if nat_lt 5 (slice_index record_bytes 3) then Some RecordType else None))

abbrev pub data_in : List ℕ → List ℕ
data_in record_bytes = take (slice_index record_bytes 0) (drop 4 record_bytes)

-- what a record of each type says
abbrev pub item_of : ℕ → ℕ → List ℕ → Item
item_of kind address bytes =
    if kind == 0 then Data address bytes else (
    if kind == 1 then End else (
    if kind == 2 then Base (16 * half bytes) else (
    if kind == 3 then Start (16 * half bytes + half (drop 2 bytes)) else (
    if kind == 4 then Base (2 ^ 16 * half bytes) else Start (word bytes)))))

abbrev pub item : List ℕ → Item
item record_bytes = item_of (slice_index record_bytes 3) (half (drop 1 record_bytes)) (data_in record_bytes)

abbrev pub by_flaw : Item → Option RecordKind → Result Item RecordKind
by_flaw i None = Ok i
by_flaw i (Some kind) = Err kind

abbrev pub by_digits : Option (List ℕ) → Result Item RecordKind
by_digits None = Err Syntax
by_digits (Some record_bytes) = by_flaw (item record_bytes) (flaw record_bytes)

-- what a line says, or the first of what is wrong with it
abbrev pub said : List ℕ → Result Item RecordKind
said line = if starts_with nat_eq line (codes ":") then by_digits (digits_in (drop 1 line)) else Err Syntax
