use Rattle.std.proofs.Common.{◌≡◌, ℕ, List, take}
use Rattle.std.specs.Prelude.{is_some}
use Rattle.aof_object.specs.Names.{among}
use Rattle.link_select.specs.Index.{number_in}
use Rattle.link_select.proofs.regions.index_names.Given as goal

abbrev pub invariant-loop-name : goal.invariant-loop-name
invariant-loop-name l = (q : List ℕ) → is_some (number_in l.index q) ≡ among q (take l.name-index l.names)
