use Rattle.std.proofs.Common.{◌≡◌, ◌++◌, drop, map}
use Rattle.link_report.specs.Shown.{shown, valued}
use Rattle.link_report.proofs.symbols.all_listed.Given as goal

abbrev pub invariant-loop-definition : goal.invariant-loop-definition
invariant-loop-definition l = map shown l.all.items ++ map (valued l.values) (drop l.definition-index l.definitions) ≡ map (valued l.values) l.definitions
