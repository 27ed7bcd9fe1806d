use Rattle.std.proofs.Common.{◌≡◌, ◌+◌, ◌≤◌, ◌++◌, drop, length}
use Rattle.std.specs.List.{flat_map}
use Rattle.link_place.specs.Parts.{contents_in, parts_from}
use Rattle.link_place.proofs.parts.parts_of_loads.Given as goal

abbrev pub invariant-loop-load : goal.invariant-loop-load
invariant-loop-load l = record {
  so_far : l.out.items ++ parts_from l.input.kind.now (contents_in l.input) (length l.out.items) (flat_map (λ d. d.regions) (drop l.load-index l.loads))
      ≡ parts_from l.input.kind.now (contents_in l.input) 0 (flat_map (λ d. d.regions) l.loads);
  few : length l.out.items + length (flat_map (λ d. d.regions) (drop l.load-index l.loads)) ≤ 64;
}
