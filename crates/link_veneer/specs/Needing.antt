-- Veneers of branches by distances that are counted upwards, and veneers that are added one by one. This
-- project's.
use Rattle.std.specs.Prelude.{ℕ, ◌+◌, ◌-◌, ◌%◌, ◌^◌, ◌==◌, ◌&&◌, Bool, nat_le, if◌then◌else◌, List, [], ◌∷◌, ◌++◌, length, Option, Some, None}
use Rattle.std.specs.List.{list_any}
use Rattle.std.specs.Option.{option_and_then}
use Rattle.sdt_word.specs.Bytes.{word_in}
use Rattle.aof_object.specs.declared.records.Reloc.{Reloc}
use Rattle.patch_model.specs.Fields.{field_of, number_named}
use Rattle.patch_model.specs.Patched.{pc_offset, is_branch, bias, other_state, biased_displacement}
use Rattle.link_model.specs.declared.placing.Veneer.{Veneer}
use Rattle.link_model.specs.Members.{Link}
use Rattle.link_model.specs.Veneers.{is_same, values_apart}
use Rattle.link_values.specs.declared.values.BranchTarget.{BranchTarget}
use Rattle.link_veneer.specs.Targets.{target_of}

-- from the area's start, and 2^32 more
abbrev pub led_from : List ℕ → Bool → ℕ → Option ℕ
led_from bytes thumb at =
    if nat_le (at + 4) (length bytes) && is_branch thumb (word_in bytes at) then
    Some (at + (pc_offset thumb + biased_displacement thumb (word_in bytes at) + (2 ^ 32 - bias thumb)))
    else None

abbrev pub veneer_to : ℕ → Bool → ℕ → BranchTarget → Option Veneer
veneer_to region thumb distance t =
    if other_state thumb t.thumb then
    Some (record { region = region; area = record { object = t.place.object; area = t.place.area }; offset = (t.place.offset + distance) % 2 ^ 32; thumb = t.thumb })
    else None

-- by a relocation of an area with these bytes, in an object
abbrev pub led : Link → ℕ → ℕ → List ℕ → Reloc → Option Veneer
led l region object bytes r =
    option_and_then (λ distance. option_and_then (veneer_to region (r.offset % 2 == 1) distance) (target_of ((values_apart l object).symbol (number_named r))))
    (led_from bytes (r.offset % 2 == 1) (field_of r).place)

-- behind the others, unless it is among them
abbrev pub with_one : List Veneer → Veneer → List Veneer
with_one vs v = if list_any (is_same v) vs then vs else vs ++ v ∷ []

abbrev pub with_all : List Veneer → List Veneer → List Veneer
with_all vs [] = vs
with_all vs (w ∷ ws) = with_all (with_one vs w) ws
