-- What is wrong with a relocation of a placed area. At one relocation the form is judged first, and then the value;
-- relocations are judged in placed order, those of an area in the order of their list (SDT 2.50 Reference Guide, ARM
-- Object Format, relocation directives; ARM Architecture Reference Manual, the encodings of B and BL; the ranges of
-- narrow fields, the kinds of flaws and their order are this project's). Displacements have no signs: they are counted
-- from the least one.
use Rattle.std.specs.Prelude.{ℕ, ◌+◌, ◌*◌, ◌-◌, ◌^◌, ◌%◌, Bool, true, false, not, ◌&&◌, ◌||◌, nat_lt, nat_le, ◌==◌, if◌then◌else◌, List, [], length, slice_get, count_by, unwrap_or, Option, Some, None}
use Rattle.std.specs.List.{flat_map, filter_map, list_any}
use Rattle.std.specs.Option.{option_map, is_some}
use Rattle.sdt_word.specs.Numbers.{bit}
use Rattle.sdt_fault.specs.declared.refusal.Refusal.{Refusal}
use Rattle.sdt_fault.specs.declared.refusal.Refusal.TheVariants.{BadRelocation, FieldOverflow, Unreachable}
use Rattle.aof_object.specs.declared.records.Area.{Area}
use Rattle.aof_object.specs.declared.records.Object.{Object}
use Rattle.aof_object.specs.declared.records.Reloc.{Reloc}
use Rattle.patch_model.specs.Fields.{Kind, Byte, Half, Word, Branch, Field, Values, field_of, kind_of, is_relative, is_by_symbol, number_named, is_same_kind, directives, added, taken, size_of, number_in}
use Rattle.patch_model.specs.Patched.{total, biased_displacement, bias, pc_offset, is_branch, Way, Directly, ByVeneer, way_of}
use Rattle.link_model.specs.declared.placing.PlacedArea.{PlacedArea}
use Rattle.link_model.specs.declared.placing.Placement.{Placement}
use Rattle.link_model.specs.declared.selection.Linked.{Linked}
use Rattle.link_model.specs.declared.selection.Named.{Named}
use Rattle.link_model.specs.Members.{link_of}
use Rattle.link_model.specs.Veneers.{shares_field}
use Rattle.link_apply.specs.declared.flaws.Flaw.{Flaw}
use Rattle.link_apply.specs.declared.flaws.Flaw.TheVariants.{Malformed, Overflow, OutOfReach}
use Rattle.link_values.specs.Placed.{values_in}
use Rattle.link_apply.specs.Placed.{veneers_at, target_in}

-- ---- the form of any field

-- two fields that share bytes without being the same
abbrev pub overlaps : Field → Field → Bool
overlaps f g =
    not (f.place == g.place && is_same_kind f.kind g.kind)
    && (nat_lt f.place (g.place + size_of g.kind) && nat_lt g.place (f.place + size_of f.kind))

-- relative to the area that has it, by that area itself
abbrev pub is_of_itself : ℕ → Reloc → Bool
is_of_itself area r = is_relative r && (not (is_by_symbol r) && number_named r == area)

-- bit 28 says "based", which only a relative one may be
abbrev pub is_based : Reloc → Bool
is_based r = bit r.word 28 == 1 && not (is_relative r)

abbrev pub is_outside : List ℕ → Field → Bool
is_outside bytes f = nat_lt (length bytes) (f.place + size_of f.kind)

-- of an area of this number
abbrev pub has_bad_field : ℕ → Area → Reloc → Bool
has_bad_field area a r =
    is_outside a.bytes (field_of r) || (is_of_itself area r || (is_based r || list_any (λ q. overlaps (field_of q) (field_of r)) a.relocs))

-- ---- branches

-- a branch's field has one relocation, which is relative
abbrev pub is_only : List Reloc → Reloc → Bool
is_only relocs r = is_relative r && count_by (shares_field (field_of r)) relocs == 1

-- instructions of a state stand at multiples of this
abbrev pub unit : Bool → ℕ
unit false = 4
unit true = 2

-- a displacement, less some number of 2^32, that no field holds
abbrev pub is_odd : Bool → ℕ → Bool
is_odd thumb displacement = not (displacement % unit thumb == 0)

-- by what the branch at an address holds and what is added and taken; `veneer` is the address of the one it goes by
abbrev pub has_bad_way : Bool → ℕ → ℕ → ℕ → ℕ → ℕ → Way → ℕ → Bool
has_bad_way thumb at old added subtracted veneer Directly target = is_odd thumb (total (biased_displacement thumb old) added subtracted)
has_bad_way thumb at old added subtracted veneer (ByVeneer home state) target =
    is_odd state target || is_odd thumb (total veneer (bias thumb) (at + pc_offset thumb))

-- the distance from one number to another is no displacement
abbrev pub is_far : Bool → ℕ → ℕ → Bool
is_far thumb from to = nat_lt to from || nat_le (from + 2 * bias thumb) to

-- a veneer to ARM code branches from its second word to the target
abbrev pub is_far_behind : Bool → ℕ → ℕ → Bool
is_far_behind true veneer target = false
is_far_behind false veneer target = is_far false (veneer + 4 + pc_offset false) (target + bias false)

abbrev pub is_far_way : Bool → ℕ → ℕ → ℕ → ℕ → ℕ → Way → ℕ → Bool
is_far_way thumb at old added subtracted veneer Directly target = is_far thumb subtracted (biased_displacement thumb old + added)
is_far_way thumb at old added subtracted veneer (ByVeneer home state) target =
    is_far thumb (at + pc_offset thumb) (veneer + bias thumb) || is_far_behind state veneer target

-- ---- the flaw of a relocation

abbrev pub unless : Flaw → Bool → Option Flaw → Option Flaw
unless flaw wrong next = if wrong then Some flaw else next

abbrev pub narrow_flaw : ℕ → ℕ → Option Flaw
narrow_flaw width sum = if nat_lt sum (2 ^ width) || nat_le (2 ^ 32 - 2 ^ (width - 1)) sum then None else Some Overflow

-- where a way's veneer stands, and its target
abbrev pub veneer_of : Placement → ℕ → Way → ℕ
veneer_of p region Directly = 0
veneer_of p region (ByVeneer home state) = unwrap_or (veneers_at p region home state) 0

abbrev pub lacks_veneer : Placement → ℕ → Way → Bool
lacks_veneer p region Directly = false
lacks_veneer p region (ByVeneer home state) = not (is_some (veneers_at p region home state))

abbrev pub goal_of : Placement → Way → ℕ
goal_of p Directly = 0
goal_of p (ByVeneer home state) = target_in p home

abbrev pub way_flaw : Bool → ℕ → ℕ → ℕ → ℕ → ℕ → Way → ℕ → Option Flaw
way_flaw thumb at old added subtracted veneer way target =
    unless Malformed (has_bad_way thumb at old added subtracted veneer way target)
    (unless OutOfReach (is_far_way thumb at old added subtracted veneer way target) None)

abbrev pub branch_flaw : Placement → Values → ℕ → ℕ → Bool → List ℕ → Field → List Reloc → Way → Option Flaw
branch_flaw p values region base thumb bytes f rs way =
    unless Malformed (lacks_veneer p region way)
    (way_flaw thumb (base + f.place) (number_in bytes f) (added values rs) (taken base rs) (veneer_of p region way) way (goal_of p way))

-- of a field that is none of the bad ones, by its directives
abbrev pub value_flaw : Placement → Values → ℕ → ℕ → Area → Reloc → Kind → List Reloc → Option Flaw
value_flaw p values region base a r Byte rs = narrow_flaw 8 (total (number_in a.bytes (field_of r)) (added values rs) (taken base rs))
value_flaw p values region base a r Half rs = narrow_flaw 16 (total (number_in a.bytes (field_of r)) (added values rs) (taken base rs))
value_flaw p values region base a r Word rs = None
value_flaw p values region base a r (Branch thumb) rs =
    unless Malformed (not (is_only a.relocs r && is_branch thumb (number_in a.bytes (field_of r))))
    (branch_flaw p values region base thumb a.bytes (field_of r) rs (way_of base values a.bytes (field_of r) thumb rs))

-- of a relocation of an area of a number, which stands in a region at a base
abbrev pub flaw_of : Placement → Values → ℕ → ℕ → ℕ → Area → Reloc → Option Flaw
flaw_of p values region base area a r =
    unless Malformed (has_bad_field area a r) (value_flaw p values region base a r (kind_of r) (directives a.relocs (field_of r)))

-- ---- what is told of it

abbrev pub symbol_name : Object → Reloc → List ℕ
symbol_name o r =
    if is_by_symbol r then unwrap_or (option_map (λ s. s.name) (slice_get o.symbols (number_named r))) []
    else unwrap_or (option_map (λ a. a.name) (slice_get o.areas (number_named r))) []

abbrev pub told : List ℕ → Object → Area → Reloc → Flaw → Refusal
told name o a r Malformed = BadRelocation name a.name (field_of r).place
told name o a r Overflow = FieldOverflow name a.name (field_of r).place
told name o a r OutOfReach = Unreachable name a.name (field_of r).place (symbol_name o r)

abbrev pub refusal_of : Placement → Values → PlacedArea → Named Object → Area → Reloc → Option Refusal
refusal_of p values placed o a r =
    option_map (told o.name o.value a r) (flaw_of p values placed.region placed.address placed.area.area a r)

-- those of the relocations of a placed area
abbrev pub refusals_in : Placement → Values → PlacedArea → Named Object → Option Area → List Refusal
refusals_in p values placed o None = []
refusals_in p values placed o (Some a) = filter_map (refusal_of p values placed o a) a.relocs

abbrev pub refusals_at : Linked → Placement → PlacedArea → Option (Named Object) → List Refusal
refusals_at l p placed None = []
refusals_at l p placed (Some o) =
    refusals_in p (values_in (link_of l) p placed.area.object) placed o (slice_get o.value.areas placed.area.area)

-- the first in placed order
abbrev pub apply_refusal : Linked → Placement → Option Refusal
apply_refusal l p = slice_get (flat_map (λ placed. refusals_at l p placed (slice_get l.objects placed.area.object)) p.areas) 0
