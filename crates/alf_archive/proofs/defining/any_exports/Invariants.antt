use Rattle.std.proofs.Common.{◌≡◌, drop}
use Rattle.aof_object.specs.Names.{among}
use Rattle.aof_object.specs.Objects.{exported}
use Rattle.alf_archive.proofs.defining.any_exports.Given as goal

abbrev pub invariant-loop-symbol : goal.invariant-loop-symbol
invariant-loop-symbol l = among l.name (exported (drop l.symbol-index l.symbols)) ≡ among l.name (exported l.symbols)
