-- The flaw of a field by the numbers that stand for it. This project's.
use Rattle.std.specs.Prelude.{◌≡◌, ℕ, ◌*◌, ◌%◌, ◌^◌, Bool, false, not, ◌&&◌, List, Option, None}
use Rattle.aof_object.specs.declared.records.Area.{Area}
use Rattle.aof_object.specs.declared.records.Reloc.{Reloc}
use Rattle.patch_model.specs.Fields.{Kind, Byte, Half, Word, Branch, Values, field_of, kind_of, directives, size_of}
use Rattle.patch_model.specs.Patched.{total, is_branch, Way, way_of}
use Rattle.link_model.specs.declared.placing.Placement.{Placement}
use Rattle.link_apply.specs.declared.flaws.Flaw.{Flaw}
use Rattle.link_apply.specs.declared.flaws.Flaw.TheVariants.{Malformed}
use Rattle.link_apply.specs.Flaws.{unless, narrow_flaw, veneer_of, lacks_veneer, goal_of, way_flaw, has_bad_field}
use Rattle.link_apply.specs.PatchedBytes.{turned}
use Rattle.link_apply.specs.Starts.{Starts, AreStarts}

-- a field of a kind at an address, with what it holds, what is added and what is taken away; `only` where one relative
-- relocation has it
abbrev pub flaw_by : Placement → ℕ → ℕ → ℕ → ℕ → ℕ → Bool → Way → Kind → Option Flaw
flaw_by p region at old added subtracted only way Byte = narrow_flaw 8 (total old added subtracted)
flaw_by p region at old added subtracted only way Half = narrow_flaw 16 (total old added subtracted)
flaw_by p region at old added subtracted only way Word = None
flaw_by p region at old added subtracted only way (Branch thumb) =
    unless Malformed (not (only && is_branch thumb old))
    (unless Malformed (lacks_veneer p region way) (way_flaw thumb at old added subtracted (veneer_of p region way) way (goal_of p way)))

-- an index of what relocations do, by some values
abbrev pub IsIndex : List Reloc → Starts → Type 0
IsIndex relocs m = (values : Values) × AreStarts values relocs m

-- the way of a relocation of an area of a number at a base, if it is a branch without a bad field
abbrev pub IsWay : Values → ℕ → ℕ → Area → Reloc → Way → Type 0
IsWay values base area a r way =
    (thumb : Bool) → kind_of r ≡ Branch thumb → has_bad_field area a r ≡ false → way ≡ way_of base values a.bytes (field_of r) thumb (directives a.relocs (field_of r))

-- what such a field is to hold
abbrev pub number_with : Placement → ℕ → ℕ → ℕ → ℕ → ℕ → Way → Kind → ℕ
number_with p region at old added subtracted way (Branch thumb) = turned thumb at old added subtracted (veneer_of p region way) way
number_with p region at old added subtracted way kind = total old added subtracted % 2 ^ (8 * size_of kind)
