-- The bytes of a placed area with its fields patched, and those of veneers (SDT 2.50 Reference Guide, ARM Object Format,
-- relocation directives; ARM Architecture Reference Manual, the encodings of B, BL, LDR, BX and MOV; the veneers'
-- instructions are this project's).
use Rattle.std.specs.Prelude.{ℕ, suc, ◌+◌, ◌*◌, ◌-◌, ◌/◌, ◌^◌, ◌%◌, Bool, true, false, ◌&&◌, nat_lt, nat_le, List, [], ◌∷◌, ◌++◌, Option, Some, None}
use Rattle.std.specs.List.{find}
use Rattle.sdt_word.specs.Bytes.{bytes_of}
use Rattle.sdt_word.specs.Numbers.{bits}
use Rattle.aof_object.specs.declared.records.Area.{Area}
use Rattle.aof_object.specs.declared.records.Reloc.{Reloc}
use Rattle.patch_model.specs.Fields.{Kind, Branch, Field, Values, field_of, directives, added, taken, size_of, number_in}
use Rattle.patch_model.specs.Patched.{total, biased_displacement, bias, pc_offset, Way, Directly, ByVeneer, way_of}
use Rattle.link_model.specs.declared.placing.Placement.{Placement}
use Rattle.link_apply.specs.Flaws.{veneer_of}

-- ---- one field

-- a branch with another displacement, which is counted from the least one
abbrev pub with_displacement : Bool → ℕ → ℕ → ℕ
with_displacement false word to = word / 2 ^ 24 * 2 ^ 24 + (to / 4 + 2 ^ 23) % 2 ^ 24
with_displacement true word to =
    bits word 11 5 * 2 ^ 11 + (to / 2 + 2 ^ 21) % 2 ^ 22 / 2 ^ 11 + (bits word 27 5 * 2 ^ 11 + (to / 2 + 2 ^ 21) % 2 ^ 11) * 2 ^ 16

abbrev pub turned : Bool → ℕ → ℕ → ℕ → ℕ → ℕ → Way → ℕ
turned thumb at old added subtracted veneer Directly = with_displacement thumb old (biased_displacement thumb old + added - subtracted)
turned thumb at old added subtracted veneer (ByVeneer home state) = with_displacement thumb old (veneer + bias thumb - (at + pc_offset thumb))

-- what a field of an area in a region at a base holds
abbrev pub number_by : Placement → Values → ℕ → ℕ → List ℕ → Field → Kind → List Reloc → ℕ
number_by p values region base bytes f (Branch thumb) rs =
    turned thumb (base + f.place) (number_in bytes f) (added values rs) (taken base rs) (veneer_of p region (way_of base values bytes f thumb rs))
    (way_of base values bytes f thumb rs)
number_by p values region base bytes f kind rs = total (number_in bytes f) (added values rs) (taken base rs) % 2 ^ (8 * size_of kind)

abbrev pub patched_number : Placement → Values → ℕ → ℕ → Area → Field → ℕ
patched_number p values region base a f = number_by p values region base a.bytes f f.kind (directives a.relocs f)

-- ---- the area

abbrev pub has_byte : ℕ → Reloc → Bool
has_byte i r = nat_le (field_of r).place i && nat_lt i ((field_of r).place + size_of (field_of r).kind)

-- a byte is one of the field that has it, or as it was
abbrev pub byte_by : Placement → Values → ℕ → ℕ → Area → ℕ → ℕ → Option Reloc → ℕ
byte_by p values region base a i byte None = byte
byte_by p values region base a i byte (Some r) =
    patched_number p values region base a (field_of r) / 2 ^ (8 * (i - (field_of r).place)) % 2 ^ 8

abbrev pub patched_from : Placement → Values → ℕ → ℕ → Area → ℕ → List ℕ → List ℕ
patched_from p values region base a i [] = []
patched_from p values region base a i (byte ∷ bytes) =
    byte_by p values region base a i byte (find (has_byte i) a.relocs) ∷ patched_from p values region base a (suc i) bytes

abbrev pub patched_bytes : Placement → Values → ℕ → ℕ → Area → List ℕ
patched_bytes p values region base a = patched_from p values region base a 0 a.bytes

-- ---- a veneer at an address, by its target's address and state; its own branch counts modulo 2^32

abbrev pub veneer_bytes : ℕ → ℕ → Bool → List ℕ
veneer_bytes v target true = bytes_of 0xE59FC000 4 ++ bytes_of 0xE12FFF1C 4 ++ bytes_of ((target + 1) % 2 ^ 32) 4
veneer_bytes v target false =
    bytes_of 0x4778 2 ++ bytes_of 0x46C0 2 ++ bytes_of (with_displacement false 0xEA000000 (total target (bias false) (v + 4 + pc_offset false))) 4
