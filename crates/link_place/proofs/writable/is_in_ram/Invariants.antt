use Rattle.std.proofs.Common.{◌≡◌, drop}
use Rattle.std.specs.List.{list_any}
use Rattle.place_model.specs.Faults.{in_range}
use Rattle.link_place.proofs.writable.is_in_ram.Given as goal

abbrev pub invariant-loop-range : goal.invariant-loop-range
invariant-loop-range l = list_any (in_range l.address) (drop l.range-index l.ram) ≡ list_any (in_range l.address) l.ram
