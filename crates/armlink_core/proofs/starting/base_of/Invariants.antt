use Rattle.std.proofs.Common.{◌≡◌, drop}
use Rattle.std.specs.Prelude.{unwrap_or}
use Rattle.std.specs.List.{find}
use Rattle.std.specs.Option.{option_map}
use Rattle.link_model.specs.RegionValues.{reduced_by}
use Rattle.link_values.specs.Placed.{is_area}
use Rattle.armlink_core.proofs.starting.base_of.Given as goal

abbrev pub invariant-loop-placed : goal.invariant-loop-placed
invariant-loop-placed l =
    unwrap_or (option_map (λ a. reduced_by l.boot a.address) (find (is_area l.object l.area) (drop l.placed-index l.areas))) 0
    ≡ unwrap_or (option_map (λ a. reduced_by l.boot a.address) (find (is_area l.object l.area) l.areas)) 0
