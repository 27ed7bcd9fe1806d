-- A line of S-records: `S`, the type's digit, and in pairs of digits how many bytes follow, the address, the bytes, and the
-- complement of the low byte of the sum of these (Motorola, M68000 Family Programmer's Reference Manual, S-Record Output
-- Format: types 0, 1, 2, 3, 5, 7, 8 and 9). That a count isn't looked at, nor the address of a header, is this project's.
use Rattle.std.specs.Prelude.{ℕ, ◌+◌, ◌-◌, ◌%◌, ◌==◌, ◌&&◌, not, Bool, nat_le, sum, if◌then◌else◌, List, length, take, drop, slice_index, Option, Some, None, Result, Err}
use Rattle.sdt_fault.specs.declared.kinds.RecordKind.{RecordKind}
use Rattle.sdt_fault.specs.declared.kinds.RecordKind.TheVariants.{Syntax, Length, Sum, RecordType}
use Rattle.hex_image.specs.declared.records.Item.{Item}
use Rattle.hex_image.specs.declared.records.Item.TheVariants.{Data, EndAt, Nothing}
use Rattle.hex_image.specs.Digits.{digits_in, half, three, word}
use Rattle.hex_image.specs.Ihex.{by_flaw}

-- whether a record of the type may have so many bytes behind the first: address, bytes, sum
abbrev pub fits : ℕ → ℕ → Bool
fits kind count =
    if kind == 0 then nat_le 3 count else (
    if kind == 1 then nat_le 3 count else (
    if kind == 2 then nat_le 4 count else (
    if kind == 3 then nat_le 5 count else (
    if kind == 5 then count == 3 else (
    if kind == 7 then count == 5 else (
    if kind == 8 then count == 4 else (
    if kind == 9 then count == 3 else nat_le 1 count)))))))

abbrev pub is_long : ℕ → List ℕ → Bool
is_long kind record_bytes = length record_bytes == slice_index record_bytes 0 + 1 && fits kind (slice_index record_bytes 0)

-- the first of what is wrong with a record
abbrev pub flaw : ℕ → List ℕ → Option RecordKind
flaw kind record_bytes =
    if not (is_long kind record_bytes) then Some Length else (
    if not (sum record_bytes % 256 == 255) then Some Sum else (
    if kind == 4 then Some RecordType else (
    if kind == 6 then Some RecordType else None)))

-- the bytes behind an address of so many bytes, up to the sum
abbrev pub data_in : ℕ → List ℕ → List ℕ
data_in width record_bytes = take (slice_index record_bytes 0 - (width + 1)) (drop (width + 1) record_bytes)

abbrev pub data_item : ℕ → List ℕ → Item
data_item address bytes = Data address bytes

-- what a record of each type says
abbrev pub item : ℕ → List ℕ → Item
item kind record_bytes =
    if kind == 1 then Data (half (drop 1 record_bytes)) (data_in 2 record_bytes) else (
    if kind == 2 then Data (three (drop 1 record_bytes)) (data_in 3 record_bytes) else (
    if kind == 3 then Data (word (drop 1 record_bytes)) (data_in 4 record_bytes) else (
    if kind == 7 then EndAt (word (drop 1 record_bytes)) else (
    if kind == 8 then EndAt (three (drop 1 record_bytes)) else (
    if kind == 9 then EndAt (half (drop 1 record_bytes)) else Nothing)))))

abbrev pub by_digits : ℕ → Option (List ℕ) → Result Item RecordKind
by_digits kind None = Err Syntax
by_digits kind (Some record_bytes) = by_flaw (item kind record_bytes) (flaw kind record_bytes)

-- the type: a decimal digit behind `S`
abbrev pub kind_of : List ℕ → Option ℕ
kind_of line =
    if slice_index line 0 == 83 && (nat_le 48 (slice_index line 1) && nat_le (slice_index line 1) 57)
    then Some (slice_index line 1 - 48) else None

abbrev pub by_kind : List ℕ → Option ℕ → Result Item RecordKind
by_kind digits None = Err Syntax
by_kind digits (Some kind) = by_digits kind (digits_in digits)

-- what a line says, or the first of what is wrong with it
abbrev pub said : List ℕ → Result Item RecordKind
said line = by_kind (drop 2 line) (kind_of line)
