use Rattle.std.proofs.Common.{◌≡◌, drop}
use Rattle.link_model.specs.Members.{link_of}
use Rattle.link_veneer.specs.Interworking.{refused_in}
use Rattle.link_veneer.proofs.interworking.refusal_in_object.Given as goal

abbrev pub invariant-loop-k : goal.invariant-loop-k
invariant-loop-k l = refused_in (link_of l.linked) l.object l.k (drop l.k l.areas) ≡ refused_in (link_of l.linked) l.object 0 l.areas
