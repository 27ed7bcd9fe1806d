use Rattle.std.proofs.Common.{◌≡◌, map}
use Rattle.asm_offsets.specs.Finished.{finished}
use Rattle.asm_offsets.proofs.ends.finish_all.Given as goal

abbrev pub invariant-areas : goal.invariant-areas
invariant-areas l = l.laid.items ≡ map finished l.yielded
