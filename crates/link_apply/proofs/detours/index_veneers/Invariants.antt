use Rattle.std.proofs.Common.{drop}
use Rattle.link_apply.specs.Detours.{AreVeneers}
use Rattle.link_apply.proofs.detours.index_veneers.Given as goal

abbrev pub invariant-loop-i : goal.invariant-loop-i
invariant-loop-i l = AreVeneers (drop l.i l.placed) l.veneers
