use Rattle.std.proofs.Common.{◌≡◌, ◌^◌, ◌≤◌, ◌++◌, drop, length}
use Rattle.std.specs.Prelude.{sum_by}
use Rattle.link_place.specs.Parts.{piece_count}
use Rattle.link_place.specs.Layouts.{regions_by, loads_by}
use Rattle.link_place.proofs.layouts.lay_out.Given as goal

abbrev pub invariant-loop-i : goal.invariant-loop-i
invariant-loop-i l = record {
  regions : l.regions.items ++ regions_by l.words l.origin l.i (drop l.i l.groups) l.rest ≡ regions_by l.words l.origin 0 l.groups l.parts;
  loads : l.loads.items ++ loads_by l.words l.origin l.i (drop l.i l.groups) l.rest ≡ loads_by l.words l.origin 0 l.groups l.parts;
  counts : sum_by (λ g. g.count) (drop l.i l.groups) ≡ length l.rest;
  room : sum_by piece_count l.rest ≤ 2 ^ 28;
}
