use Rattle.std.proofs.Common.{◌≡◌, drop}
use Rattle.link_model.specs.Members.{link_of}
use Rattle.link_model.specs.Veneers.{needed_from}
use Rattle.link_veneer.specs.Needing.{with_all}
use Rattle.link_veneer.proofs.planning.add_regions.Given as goal

abbrev pub invariant-loop-k : goal.invariant-loop-k
invariant-loop-k l = with_all l.needs.keys (needed_from (link_of l.linked) l.k (drop l.k l.regions)) ≡ with_all l.initial.needs.keys (needed_from (link_of l.linked) 0 l.regions)
