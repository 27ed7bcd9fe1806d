use Rattle.std.proofs.Common.{◌≡◌, ◌++◌, drop, map, flat_map}
use Rattle.link_report.specs.Shown.{shown_need}
use Rattle.link_report.specs.Members.{need_in}
use Rattle.link_report.proofs.members.push_needs.Given as goal

abbrev pub invariant-loop-symbol : goal.invariant-loop-symbol
invariant-loop-symbol l = map shown_need l.needs.items ++ flat_map (need_in l.by) (drop l.symbol-index l.symbols) ≡ map shown_need l.fn.needs.items ++ flat_map (need_in l.by) l.symbols
