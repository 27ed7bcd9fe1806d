use Rattle.std.proofs.Common.{List, subst}
use Rattle.link_model.specs.declared.placing.PlacedVeneer.{PlacedVeneer}
use Rattle.link_apply.specs.Detours.{AreVeneers}
use Rattle.link_apply.specs.Sites.{AreAllBelow}
use Rattle.link_apply.proofs.applying.known_of.Goals as goal

pub returns-clause-knows : goal.returns-clause-knows
returns-clause-knows c = record {
  within = c.requires.within;
  bases = c.in_ok-bases.ensures;
  values = c.in_ok-values.ensures.exact;
  below = subst AreAllBelow c.as_slice.ensures (c.are_below.ensures c.if-not-are_below.false);
  veneers = subst (λ (ps : List PlacedVeneer). AreVeneers ps c.in_ok-veneers.veneers) c.as_slice-2.ensures c.in_ok-veneers.ensures;
}
