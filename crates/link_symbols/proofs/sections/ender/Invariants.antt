use Rattle.std.proofs.Common.{◌≡◌, suc, drop}
use Rattle.link_symbols.specs.Sections.{ends_at, number_where}
use Rattle.link_symbols.proofs.sections.ender.Given as goal

abbrev pub invariant-loop-i : goal.invariant-loop-i
invariant-loop-i l = number_where (ends_at l.address) (suc l.i) (drop l.i l.sections) ≡ number_where (ends_at l.address) 1 l.sections
