use Rattle.std.proofs.Common.{◌≡◌, ◌++◌, drop, map, flat_map}
use Rattle.link_report.specs.Shown.{shown}
use Rattle.link_report.specs.Symbols.{symbol_line}
use Rattle.link_report.proofs.symbols.push_all.Given as goal

abbrev pub invariant-loop-listed : goal.invariant-loop-listed
invariant-loop-listed l = l.out.items ++ flat_map (symbol_line l.objects) (map shown (drop l.listed-index l.all)) ≡ l.fn.out.items ++ flat_map (symbol_line l.objects) (map shown l.all)
