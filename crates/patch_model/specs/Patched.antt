-- The bytes of an area in which each field is what it was plus what its directives add (SDT 2.50 Reference Guide, ARM
-- Object Format, relocation directives, and armlink's interworking veneers; ARM Architecture Reference Manual, the
-- encodings of B and BL; the ranges of bytes and half-words are this project's). Numbers have no signs here: a
-- displacement is counted from the least one, and a sum is compared with what was taken away from it.
use Rattle.std.specs.Prelude.{◌≡◌, ◌⊎◌, ℕ, ◌+◌, ◌-◌, ◌*◌, ◌/◌, ◌%◌, ◌^◌, ◌<◌, ◌≤◌, Bool, true, false, not, ◌&&◌, nat_lt, ◌==◌, if◌then◌else◌, List, [], ◌∷◌, length, get_or, slice_get, Option, Some, None}
use Rattle.std.specs.Option.{IsSomeAnd}
use Rattle.sdt_word.specs.Numbers.{bits}
use Rattle.aof_object.specs.declared.records.Area.{Area}
use Rattle.aof_object.specs.declared.records.Object.{Object}
use Rattle.aof_object.specs.declared.records.Reloc.{Reloc}
use Rattle.patch_model.specs.Fields.{Kind, Byte, Half, Word, Branch, Field, Home, Meant, Values, field_of, is_by_symbol, number_named, directives, added, taken, size_of, number_in}

-- the word of a number and what is added to it and taken from it
abbrev pub total : ℕ → ℕ → ℕ → ℕ
total old more less = (old + more + (2 ^ 32 - less % 2 ^ 32)) % 2 ^ 32

-- a word that fits a narrow field: below 2^width, or at most 2^(width - 1) below 2^32
abbrev pub Fits : ℕ → ℕ → Type 0
Fits width sum = (sum < 2 ^ width) ⊎ (2 ^ 32 - 2 ^ (width - 1) ≤ sum)

-- ---- branches

-- an ARM word is B or BL; two Thumb half-words are the pair of BL, the first one in the low half
abbrev pub IsBranch : Bool → ℕ → Type 0
IsBranch false w = (bits w 28 4 < 15) × (bits w 25 3 ≡ 5)
IsBranch true w = (bits w 11 5 ≡ 30) × (bits w 27 5 ≡ 31)

-- the same as a test
abbrev pub is_branch : Bool → ℕ → Bool
is_branch false w = nat_lt (bits w 28 4) 15 && bits w 25 3 == 5
is_branch true w = bits w 11 5 == 30 && bits w 27 5 == 31

-- the displacement of a branch, counted from the least one
abbrev pub biased_displacement : Bool → ℕ → ℕ
biased_displacement false w = (bits w 0 24 + 2 ^ 23) % 2 ^ 24 * 4
biased_displacement true w = (bits w 0 11 * 2 ^ 11 + bits w 16 11 + 2 ^ 21) % 2 ^ 22 * 2

-- what stands for no displacement
abbrev pub bias : Bool → ℕ
bias false = 2 ^ 25
bias true = 2 ^ 22

-- how far behind a branch its displacement counts from
abbrev pub pc_offset : Bool → ℕ
pc_offset false = 8
pc_offset true = 4

-- all but the displacement
abbrev pub SameBranch : Bool → ℕ → ℕ → Type 0
SameBranch false old new = new / 2 ^ 24 ≡ old / 2 ^ 24
SameBranch true old new = (bits new 11 5 ≡ bits old 11 5) × (bits new 27 5 ≡ bits old 27 5)

-- the address of a veneer in the field's region, by its target and the target's state
abbrev pub Veneers : Type 0
Veneers = Home → Bool → Option ℕ

-- the first symbol of directives
abbrev pub first_symbol : List Reloc → Option ℕ
first_symbol [] = None
first_symbol (r ∷ rs) = if is_by_symbol r then Some (number_named r) else first_symbol rs

-- how a branch leads to what it names: itself, or by a veneer of the target, which is named as an area and an offset
-- modulo 2^32
pub data Way : Type 0 where
  Directly : Way
  ByVeneer : Home → Bool → Way

abbrev pub other_state : Bool → Bool → Bool
other_state a b = if a then not b else b

-- a field at an address whose branch names, without its directives, a place `reach` behind it
abbrev pub way_home : Bool → ℕ → ℕ → ℕ → Meant → Option Home → Way
way_home thumb reach more less m None = Directly
way_home thumb reach more less m (Some h) =
    if other_state thumb m.thumb then
    ByVeneer (record { object = h.object; area = h.area; offset = total (h.offset + reach) more (less + m.number) }) m.thumb
    else Directly

abbrev pub way_to : Bool → ℕ → ℕ → ℕ → Values → Option ℕ → Way
way_to thumb reach more less values None = Directly
way_to thumb reach more less values (Some k) = way_home thumb reach more less (values.symbol k) (values.symbol k).home

-- how the branch of a field leads that stands in an area at a base, by its directives
abbrev pub way_of : ℕ → Values → List ℕ → Field → Bool → List Reloc → Way
way_of base values old f thumb rs =
    way_to thumb (total (base + f.place + pc_offset thumb + biased_displacement thumb (number_in old f)) 0 (bias thumb)) (added values rs) (taken base rs) values (first_symbol rs)

-- a branch whose displacement counts from an address leads to another, if there is one
abbrev pub LeadsAt : Bool → ℕ → ℕ → Option ℕ → Type 0
LeadsAt thumb from new None = ⊥
LeadsAt thumb from new (Some address) = from + biased_displacement thumb new ≡ address + bias thumb

-- the new branch leads to what the old one names with its directives, or to the veneer of that
abbrev pub Leads : Bool → ℕ → Veneers → ℕ → ℕ → ℕ → ℕ → Way → Type 0
Leads thumb from veneers old new more less Directly = biased_displacement thumb new + less ≡ biased_displacement thumb old + more
Leads thumb from veneers old new more less (ByVeneer target state) = LeadsAt thumb from new (veneers target state)

pub record Turned (thumb : Bool) (from : ℕ) (veneers : Veneers) (old new more less : ℕ) (way : Way) : Type 0 where
  pub branch : IsBranch thumb old
  pub rest : SameBranch thumb old new
  pub leads : Leads thumb from veneers old new more less way

-- ---- fields

-- the new number of a field at an address, by what its directives add and take away
abbrev pub AddsUp : Kind → ℕ → Values → Veneers → ℕ → ℕ → ℕ → ℕ → Option ℕ → Type 0
AddsUp Byte at values veneers old new more less symbol = Fits 8 (total old more less) × (new ≡ total old more less % 2 ^ 8)
AddsUp Half at values veneers old new more less symbol = Fits 16 (total old more less) × (new ≡ total old more less % 2 ^ 16)
AddsUp Word at values veneers old new more less symbol = new ≡ total old more less
AddsUp (Branch thumb) at values veneers old new more less symbol =
    Turned thumb (at + pc_offset thumb) veneers old new more less
    (way_to thumb (total (at + pc_offset thumb + biased_displacement thumb old) 0 (bias thumb)) more less values symbol)

abbrev pub IsPatched : ℕ → Values → Veneers → List ℕ → List ℕ → Field → List Reloc → Type 0
IsPatched base values veneers old new f rs =
    AddsUp f.kind (base + f.place) values veneers (number_in old f) (number_in new f) (added values rs) (taken base rs) (first_symbol rs)

-- a place that no field has
abbrev pub IsOutside : List Reloc → ℕ → Type 0
IsOutside relocs i =
    (k : ℕ) (r : Reloc) → slice_get relocs k ≡ Some r → (i < (field_of r).place) ⊎ ((field_of r).place + size_of (field_of r).kind ≤ i)

-- new is the old bytes of an area at a base, with its fields patched
pub record AreaPatched (relocs : List Reloc) (old : List ℕ) (base : ℕ) (values : Values) (veneers : Veneers) (new : List ℕ) : Type 0 where
  pub size : length new ≡ length old
  pub bytes : (i : ℕ) → get_or new i 0 < 2 ^ 8
  pub within : (k : ℕ) (r : Reloc) → slice_get relocs k ≡ Some r → (field_of r).place + size_of (field_of r).kind ≤ length old
  pub fields : (k : ℕ) (r : Reloc) → slice_get relocs k ≡ Some r → IsPatched base values veneers old new (field_of r) (directives relocs (field_of r))
  pub others : (i : ℕ) → IsOutside relocs i → get_or new i 0 ≡ get_or old i 0

-- of an area of an object
abbrev pub Patched : Object → ℕ → Values → Veneers → List ℕ → Type 0
Patched object area values veneers out =
    IsSomeAnd (slice_get object.areas area) (λ (a : Area). AreaPatched a.relocs a.bytes (values.base area) values veneers out)
