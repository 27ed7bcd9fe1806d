use Rattle.std.proofs.Common.{drop, map}
use Rattle.link_report.specs.Shown.{AreFirsts, shown_need}
use Rattle.link_report.proofs.members.first_needs.Given as goal

abbrev pub invariant-loop-i : goal.invariant-loop-i
invariant-loop-i l = AreFirsts l.index (map shown_need (drop l.i l.needs)) l.firsts
