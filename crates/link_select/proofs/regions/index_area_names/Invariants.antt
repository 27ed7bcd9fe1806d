use Rattle.std.proofs.Common.{◌≡◌, ℕ, List, take}
use Rattle.std.specs.Prelude.{is_some}
use Rattle.aof_object.specs.Names.{among}
use Rattle.link_model.specs.Members.{objects_in}
use Rattle.link_model.specs.RegionNames.{names_of_areas}
use Rattle.link_select.specs.Index.{number_in}
use Rattle.link_select.proofs.regions.index_area_names.Given as goal

abbrev pub invariant-loop-object : goal.invariant-loop-object
invariant-loop-object l = (q : List ℕ) → is_some (number_in l.index q) ≡ among q (names_of_areas (objects_in (take l.object-index l.objects)))
