-- How often each word of a relocatable AIF is shifted where the image is moved, and what can't be moved with it (SDT 2.50
-- Reference Guide, ARM Image Format; the counting, and what is NotRelocatable, are this project's).
use Rattle.std.specs.Prelude.{ℕ, suc, ◌+◌, ◌-◌, ◌%◌, Bool, false, not, ◌&&◌, ◌||◌, nat_lt, nat_le, ◌==◌, if◌then◌else◌, List, [], ◌∷◌, ◌++◌, slice_get, count_by, sum_by, unwrap_or, Option, Some, None}
use Rattle.std.specs.List.{filter_map}
use Rattle.std.specs.Option.{option_map}
use Rattle.sdt_word.specs.Numbers.{flag}
use Rattle.sdt_fault.specs.declared.refusal.Refusal.{Refusal}
use Rattle.sdt_fault.specs.declared.refusal.Refusal.TheVariants.{NotRelocatable}
use Rattle.aof_object.specs.declared.records.Area.{Area}
use Rattle.aof_object.specs.declared.records.Object.{Object}
use Rattle.aof_object.specs.declared.records.Reloc.{Reloc}
use Rattle.patch_model.specs.Fields.{Kind, Word, Branch, Field, field_of, is_by_symbol, is_relative, number_named, directives}
use Rattle.link_model.specs.declared.placing.PlacedArea.{PlacedArea}
use Rattle.link_model.specs.declared.placing.PlacedVeneer.{PlacedVeneer}
use Rattle.link_model.specs.declared.placing.Placement.{Placement}
use Rattle.link_model.specs.declared.selection.Linked.{Linked}
use Rattle.link_model.specs.declared.selection.Named.{Named}
use Rattle.link_model.specs.Members.{Link, link_of}
use Rattle.link_model.specs.RegionValues.{area_of, region_number}
use Rattle.link_model.specs.Values.{meaning_at}
use Rattle.link_values.specs.Moving.{is_moving}
use Rattle.link_values.specs.Placed.{base_in}

-- ---- what moves with the image

-- what a relocation names, in the object of a number; areas move
abbrev pub names_moving : Link → Placement → ℕ → Reloc → Bool
names_moving l p object r =
    not (is_by_symbol r) || is_moving l.objects (meaning_at l (region_number l.objects p) object (number_named r))

-- ---- the shifts of a field, by its directives and which of them name what moves

-- what moves is added
abbrev pub gains : (Reloc → Bool) → List Reloc → ℕ
gains moving rs = count_by (λ r. not (is_relative r) && moving r) rs

-- the base of the field's own area, which moves, is taken away, and what stays is added
abbrev pub losses : (Reloc → Bool) → List Reloc → ℕ
losses moving rs = count_by (λ r. is_relative r && not (moving r)) rs

abbrev pub field_shifts : (Reloc → Bool) → List Reloc → Field → ℕ
field_shifts moving relocs f = gains moving (directives relocs f) - losses moving (directives relocs f)

-- of the word at a place of an area
abbrev pub word_shifts : (Reloc → Bool) → List Reloc → ℕ → ℕ
word_shifts moving relocs place = field_shifts moving relocs (record { place = place; kind = Word })

-- ---- the shifts of the word at an address

abbrev pub shifts_in : Link → Placement → ℕ → PlacedArea → Option Area → ℕ
shifts_in l p x at None = 0
shifts_in l p x at (Some a) =
    if nat_le at.address x then word_shifts (names_moving l p at.area.object) a.relocs (x - at.address) else 0

abbrev pub area_shifts : Link → Placement → ℕ → PlacedArea → ℕ
area_shifts l p x at = shifts_in l p x at (area_of l.objects at.area)

-- the third word of a veneer to Thumb code is its target's address
abbrev pub veneer_shifts : ℕ → PlacedVeneer → ℕ
veneer_shifts x v = flag (v.veneer.thumb && v.address + 8 == x)

abbrev pub shifts_at : Link → Placement → ℕ → ℕ
shifts_at l p x = sum_by (area_shifts l p x) p.areas + sum_by (veneer_shifts x) p.veneers

-- ---- at an offset in the image, which begins with its first region

abbrev pub image_base : Placement → ℕ
image_base p = unwrap_or (option_map (λ r. r.base) (slice_get p.regions 0)) 0

abbrev pub shifts_of : Link → Placement → ℕ → ℕ
shifts_of l p offset = shifts_at l p (image_base p + offset)

-- ---- what can't be moved

-- fewer than 0 shifts, or shifts of what isn't a word aligned to 4
abbrev pub has_bad_shifts : Kind → ℕ → ℕ → ℕ → Bool
has_bad_shifts Word offset more less = if offset % 4 == 0 then nat_lt more less else not (more == less)
has_bad_shifts kind offset more less = not (more == less)

-- a branch to what stays
abbrev pub is_bad_branch : Kind → Bool → Bool
is_bad_branch (Branch thumb) moving = not moving
is_bad_branch kind moving = false

-- of a relocation whose field is at an offset in the image
abbrev pub is_unmovable : (Reloc → Bool) → ℕ → List Reloc → Reloc → Bool
is_unmovable moving offset relocs r =
    is_bad_branch (field_of r).kind (moving r)
    || has_bad_shifts (field_of r).kind offset (gains moving (directives relocs (field_of r))) (losses moving (directives relocs (field_of r)))

abbrev pub unmovable : Link → Placement → Named Object → ℕ → ℕ → Area → Reloc → Option Refusal
unmovable l p o object area a r =
    if is_unmovable (names_moving l p object) (base_in p object area + (field_of r).place - image_base p) a.relocs r
    then Some (NotRelocatable o.name a.name (field_of r).place) else None

-- those of an object's areas, which are counted from a number on
abbrev pub unmovable_in : Link → Placement → Named Object → ℕ → ℕ → List Area → List Refusal
unmovable_in l p o object area [] = []
unmovable_in l p o object area (a ∷ areas) =
    filter_map (unmovable l p o object area a) a.relocs ++ unmovable_in l p o object (suc area) areas

-- of objects, which are counted from a number on
abbrev pub unmovable_from : Link → Placement → ℕ → List (Named Object) → List Refusal
unmovable_from l p object [] = []
unmovable_from l p object (o ∷ os) = unmovable_in l p o object 0 o.value.areas ++ unmovable_from l p (suc object) os

-- the first in input order: objects, areas, relocations
abbrev pub not_relocatable : Linked → Placement → Option Refusal
not_relocatable l p = slice_get (unmovable_from (link_of l) p 0 l.objects) 0
