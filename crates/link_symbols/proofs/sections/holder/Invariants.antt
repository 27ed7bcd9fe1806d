use Rattle.std.proofs.Common.{◌≡◌, suc, drop}
use Rattle.link_symbols.specs.Sections.{holds, number_where}
use Rattle.link_symbols.proofs.sections.holder.Given as goal

abbrev pub invariant-loop-i : goal.invariant-loop-i
invariant-loop-i l = number_where (holds l.address) (suc l.i) (drop l.i l.sections) ≡ number_where (holds l.address) 1 l.sections
