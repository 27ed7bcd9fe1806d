use Rattle.std.proofs.Common.{◌≡◌, ◌≤◌, ◌*◌, length}
use Rattle.armsd_core.specs.Texts.{first_registers}
use Rattle.armsd_core.proofs.texts.numbered.Given as goal

abbrev pub invariant-loop-k : goal.invariant-loop-k
invariant-loop-k l = record {
  text : l.out.items ≡ first_registers l.state l.k;
  size : length l.out.items ≤ l.k * 51;
}
