use Rattle.std.proofs.Common.{◌≡◌, ℕ, List, take}
use Rattle.std.specs.Prelude.{is_some, ◌||◌}
use Rattle.aof_object.specs.Names.{among}
use Rattle.aof_object.specs.Spelling.{area_names}
use Rattle.link_select.specs.Index.{number_in}
use Rattle.link_select.proofs.regions.put_area_names.Given as goal

abbrev pub invariant-loop-area : goal.invariant-loop-area
invariant-loop-area l = (q : List ℕ) → is_some (number_in l.index q) ≡ (is_some (number_in l.initial.index q) || among q (area_names (take l.area-index l.areas)))
