-- Where an image can be moved: the list of its words that are shifted then, or the first relocation that can't be moved
-- (SDT 2.50 Reference Guide, ARM Image Format; the list is this project's).
use Rattle.std.specs.Prelude.{ℕ, ◌+◌, ◌/◌, List, slice_get, unwrap_or, Result}
use Rattle.std.specs.Option.{option_map}
use Rattle.sdt_fault.specs.declared.refusal.Refusal.{Refusal}
use Rattle.image_model.specs.AifFiles.{shifted_offsets}
use Rattle.link_model.specs.declared.placing.Placement.{Placement}
use Rattle.link_model.specs.declared.placing.Region.{Region}
use Rattle.link_model.specs.declared.selection.Linked.{Linked}
use Rattle.link_model.specs.Members.{link_of}
use Rattle.link_model.specs.Options.{refused_or}
use Rattle.link_values.specs.Shifts.{not_relocatable, shifts_of}

-- of the region of a number, before its zero part
abbrev pub length_at : List Region → ℕ → ℕ
length_at regions k = unwrap_or (option_map (λ r. r.length) (slice_get regions k)) 0

abbrev pub region_length : Placement → ℕ → ℕ
region_length p k = length_at p.regions k

-- the words of the read-only and read-write parts, header included
abbrev pub parts_words : Placement → ℕ
parts_words p = (region_length p 0 + region_length p 1) / 4

-- offsets in the image, ascending, each as often as its word has shifts
abbrev pub moves_of : Linked → Placement → List ℕ
moves_of l p = shifted_offsets (shifts_of (link_of l) p) 0 (parts_words p)

abbrev pub moved : Linked → Placement → Result (List ℕ) Refusal
moved l p = refused_or (not_relocatable l p) (moves_of l p)
