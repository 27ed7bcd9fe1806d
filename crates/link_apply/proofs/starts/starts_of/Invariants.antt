use Rattle.std.proofs.Common.{drop}
use Rattle.link_values.specs.Bases.{base_of}
use Rattle.link_apply.specs.Starts.{AreStarts}
use Rattle.link_apply.specs.Targets.{values_by}
use Rattle.link_apply.proofs.starts.starts_of.Given as goal

abbrev pub invariant-loop-i : goal.invariant-loop-i
invariant-loop-i l = AreStarts (values_by (base_of l.bases l.object) l.symbols) (drop l.i l.relocs) l.starts
