use Rattle.std.proofs.Common.{◌≡◌, ◌++◌, drop}
use Rattle.link_report.specs.Shown.{first_in}
use Rattle.link_report.specs.Members.{members_from}
use Rattle.link_report.proofs.members.push_found.Given as goal

abbrev pub invariant-loop-k : goal.invariant-loop-k
invariant-loop-k l = l.out.items ++ members_from l.objects (first_in l.firsts) l.given l.k (drop l.k l.objects) ≡ l.fn.out.items ++ members_from l.objects (first_in l.firsts) l.given 0 l.objects
