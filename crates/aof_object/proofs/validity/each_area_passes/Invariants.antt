use Rattle.std.proofs.Common.{◌≡◌, [], ℕ, List, take, drop, length}
use Rattle.std.specs.Prelude.{is_some}
use Rattle.aof_object.specs.Names.{among}
use Rattle.aof_object.specs.Index.{number_in}
use Rattle.aof_object.specs.Spelling.{area_names}
use Rattle.aof_object.specs.Tests.{all_pass, area_ok}
use Rattle.aof_object.proofs.validity.each_area_passes.Given as goal

abbrev pub invariant-loop-area : goal.invariant-loop-area
invariant-loop-area l = record {
  so_far : all_pass (area_ok (length l.areas) l.symbols) (take l.area-index l.areas) (drop l.area-index l.areas) ≡ all_pass (area_ok (length l.areas) l.symbols) [] l.areas;
  known : (q : List ℕ) → is_some (number_in l.taken q) ≡ among q (area_names (take l.area-index l.areas));
}
