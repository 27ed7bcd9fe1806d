use Rattle.std.proofs.Common.{◌≡◌, drop}
use Rattle.link_model.specs.Members.{link_of}
use Rattle.link_veneer.proofs.PlanLemmas.{named_after}
use Rattle.link_veneer.proofs.planning.add_region.Given as goal

abbrev pub invariant-loop-name : goal.invariant-loop-name
invariant-loop-name l = named_after (link_of l.linked) l.region l.needs.keys (drop l.name-index l.names) ≡ named_after (link_of l.linked) l.region l.initial.needs.keys l.names
