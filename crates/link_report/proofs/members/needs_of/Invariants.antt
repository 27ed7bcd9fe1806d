use Rattle.std.proofs.Common.{◌≡◌, ◌++◌, drop, map}
use Rattle.link_report.specs.Shown.{shown_need}
use Rattle.link_report.specs.Members.{needs_from}
use Rattle.link_report.proofs.members.needs_of.Given as goal

abbrev pub invariant-loop-by : goal.invariant-loop-by
invariant-loop-by l = map shown_need l.needs.items ++ needs_from l.by (drop l.by l.objects) ≡ needs_from 0 l.objects
