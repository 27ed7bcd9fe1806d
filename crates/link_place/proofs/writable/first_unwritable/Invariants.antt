use Rattle.std.proofs.Common.{◌≡◌, drop}
use Rattle.std.specs.List.{AllByRecursion}
use Rattle.link_place.specs.Checks.{IsLow}
use Rattle.link_place.specs.Writable.{first_unwritable_by}
use Rattle.link_place.specs.Placings.{AreFor}
use Rattle.link_place.proofs.writable.first_unwritable.Given as goal

abbrev pub invariant-loop-i : goal.invariant-loop-i
invariant-loop-i l = record {
  so_far : first_unwritable_by l.ram l.words l.origin (drop l.i l.parts) (drop l.i l.regions) ≡ first_unwritable_by l.ram l.words l.origin l.parts l.regions;
  low : AllByRecursion IsLow (drop l.i l.regions);
  own : AreFor l.words l.origin (drop l.i l.parts) (drop l.i l.regions);
}
