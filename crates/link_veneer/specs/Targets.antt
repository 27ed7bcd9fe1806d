-- Where symbols stand, with the state of their code, whatever addresses the areas have. This project's.
use Rattle.std.specs.Prelude.{ℕ, ◌==◌, Option}
use Rattle.std.specs.Option.{option_map}
use Rattle.sdt_word.specs.Numbers.{bit}
use Rattle.aof_object.specs.declared.records.Symbol.{Symbol}
use Rattle.patch_model.specs.Fields.{Meant}
use Rattle.link_model.specs.Values.{home_area}
use Rattle.link_values.specs.declared.values.BranchTarget.{BranchTarget}

abbrev pub target_of : Meant → Option BranchTarget
target_of m = option_map (λ h. record { place = record { object = h.object; area = h.area; offset = h.offset }; thumb = m.thumb }) m.home

-- of a definition in an object
abbrev pub target_of_symbol : ℕ → Symbol → Option BranchTarget
target_of_symbol object s =
    option_map (λ a. record { place = record { object = object; area = a; offset = s.value }; thumb = bit s.attributes 12 == 1 }) (home_area s)
