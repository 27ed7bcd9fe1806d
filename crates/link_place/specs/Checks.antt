-- What is wrong with a layout, in the words of the definitions of placing. This project's.
use Rattle.std.specs.Prelude.{ℕ, ◌+◌, ◌^◌, ◌≤◌, nat_lt, if◌then◌else◌, List, [], ◌∷◌, ◌++◌, map, take, drop, Option, Some, None}
use Rattle.std.specs.List.{filter}
use Rattle.std.specs.Option.{option_or}
use Rattle.sdt_fault.specs.declared.refusal.Refusal.{Refusal}
use Rattle.sdt_fault.specs.declared.refusal.Refusal.TheVariants.{NoRoot, Overfull, TooLarge}
use Rattle.sdt_fault.specs.declared.kinds.Quantity.TheVariants.{ImageBytes, AifBytes}
use Rattle.place_model.specs.declared.scatter.Kind.{Kind}
use Rattle.place_model.specs.declared.scatter.Kind.TheVariants as kind
use Rattle.place_model.specs.Faults as model
use Rattle.link_place.specs.declared.layouts.RegionLayout.{RegionLayout}
use Rattle.link_place.specs.declared.layouts.Load.{Load}
use Rattle.link_place.specs.declared.faults.Meeting.{Meeting}
use Rattle.link_place.specs.declared.faults.Move.{Move}
use Rattle.link_place.specs.declared.faults.Range.{Range}
use Rattle.link_place.specs.Layouts.{is_root, is_copied, size_of}

abbrev pub rootless : List RegionLayout → Option Refusal
rootless [] = None
rootless (l ∷ ls) = if is_root l then None else Some (NoRoot l.region.name)

-- ---- Overfull

abbrev pub above_by : List ℕ → ℕ → ℕ → Option Refusal
above_by name size most = if nat_lt most size then Some (Overfull name size most) else None

abbrev pub above_maximum_by : List ℕ → ℕ → Option ℕ → Option Refusal
above_maximum_by name size None = None
above_maximum_by name size (Some most) = above_by name size most

abbrev pub judging : List ℕ → ℕ → ℕ → Option ℕ → model.Judged
judging name base size maximum = record { name = name; base = base; size = size; maximum = maximum }

abbrev pub judged_laid : RegionLayout → model.Judged
judged_laid l = judging l.region.name l.region.base (size_of l) l.maximum

abbrev pub judged_load : Load → model.Judged
judged_load l = judging l.name l.base l.size l.maximum

abbrev pub overfull_by : Load → List RegionLayout → Option Refusal
overfull_by d own = option_or (model.overfull (judged_load d)) (model.first_told model.overfull (map judged_laid own))

-- each load region, and then its regions, of which it has so many
abbrev pub judged_by : List Load → List RegionLayout → List model.Judged
judged_by [] ls = map judged_laid ls
judged_by (d ∷ ds) ls = judged_load d ∷ (map judged_laid (take d.count ls) ++ judged_by ds (drop d.count ls))

-- ---- ranges that meet

abbrev pub span_of : List ℕ → Range → model.Span
span_of name r = record { name = name; base = r.base; size = r.size }

abbrev pub move_of : Move → model.Move
move_of m = record { written = span_of m.name m.written; read = span_of m.name m.read }

abbrev pub told_by : Meeting → model.Meeting
told_by m = record { first = m.first; second = m.second; address = m.address }

-- where it ends at 2^32 or below
abbrev pub IsLow : RegionLayout → Type 0
IsLow l = l.region.base + size_of l ≤ 2 ^ 32

abbrev pub IsLowLoad : Load → Type 0
IsLowLoad d = d.base + d.size ≤ 2 ^ 32

abbrev pub range_by : ℕ → ℕ → Range
range_by base size = record { base = base; size = size }

abbrev pub move_of_load : Load → Move
move_of_load d = record { name = d.name; written = range_by d.base d.size; read = range_by d.base d.size }

abbrev pub move_of_region : RegionLayout → Move
move_of_region l = record { name = l.region.name; written = range_by l.region.base (size_of l); read = range_by l.region.base (size_of l) }

abbrev pub move_of_copy : RegionLayout → Move
move_of_copy l = record { name = l.region.name; written = range_by l.region.base l.region.length; read = range_by l.region.load l.region.length }

abbrev pub overlap_of : List Load → List RegionLayout → Option model.Meeting
overlap_of ds ls =
    option_or (model.first_meeting (map move_of (map move_of_load ds))) (model.first_meeting (map move_of (map move_of_region ls)))

abbrev pub conflict_of : List RegionLayout → Option model.Meeting
conflict_of ls = model.first_meeting (map move_of (map move_of_copy (filter is_copied ls)))

-- ---- TooLarge

abbrev pub aif_too_large_by : Kind → ℕ → Option Refusal
aif_too_large_by (kind.Aif base relocatable) size = if nat_lt (2 ^ 24) size then Some (TooLarge AifBytes (2 ^ 24)) else None
aif_too_large_by _ size = None

abbrev pub too_large_by : Kind → ℕ → Option Refusal
too_large_by k size = option_or (if nat_lt (2 ^ 26) size then Some (TooLarge ImageBytes (2 ^ 26)) else None) (aif_too_large_by k size)
