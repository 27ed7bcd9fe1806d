use Rattle.std.proofs.Common.{◌≡◌, drop}
use Rattle.link_model.specs.Members.{link_of, objects_in}
use Rattle.link_veneer.specs.Interworking.{not_interworking, refused_from}
use Rattle.link_veneer.proofs.interworking.first_refusal.Given as goal

abbrev pub invariant-loop-i : goal.invariant-loop-i
invariant-loop-i l = refused_from (link_of l.linked) l.i (objects_in (drop l.i l.linked.objects)) ≡ not_interworking (link_of l.linked)
