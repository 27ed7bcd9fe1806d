use Rattle.std.proofs.Common.{◌≡◌, ◌++◌, drop}
use Rattle.alf_archive.specs.Numbered.{numbered}
use Rattle.alf_archive.specs.Defining.{number_if_defining}
use Rattle.alf_archive.proofs.defining.numbers_defining.Given as goal

abbrev pub invariant-loop-i : goal.invariant-loop-i
invariant-loop-i l = l.found.items ++ numbered (number_if_defining l.symbol) l.i (drop l.i l.members) ≡ numbered (number_if_defining l.symbol) 0 l.members
