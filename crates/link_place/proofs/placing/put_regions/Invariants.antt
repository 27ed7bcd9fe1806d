use Rattle.std.proofs.Common.{◌≡◌, ◌++◌, drop}
use Rattle.std.specs.List.{AllByRecursion, flat_map}
use Rattle.std.specs.Option.{option_or}
use Rattle.link_place.specs.Checks.{IsLow}
use Rattle.link_place.specs.Placings.{area_at, veneer_at, boot_in, all_seats, AreFor}
use Rattle.link_place.proofs.placing.put_regions.Given as goal

abbrev pub invariant-loop-i : goal.invariant-loop-i
invariant-loop-i l = record {
  areas : l.out.areas.items ++ flat_map area_at (all_seats l.words l.origin l.i (drop l.i l.parts) (drop l.i l.regions)) ≡ flat_map area_at (all_seats l.words l.origin 0 l.parts l.regions);
  veneers : l.out.veneers.items ++ flat_map veneer_at (all_seats l.words l.origin l.i (drop l.i l.parts) (drop l.i l.regions)) ≡ flat_map veneer_at (all_seats l.words l.origin 0 l.parts l.regions);
  boot : option_or l.out.boot (boot_in (all_seats l.words l.origin l.i (drop l.i l.parts) (drop l.i l.regions))) ≡ boot_in (all_seats l.words l.origin 0 l.parts l.regions);
  low : AllByRecursion IsLow (drop l.i l.regions);
  own : AreFor l.words l.origin (drop l.i l.parts) (drop l.i l.regions);
}
