use Rattle.std.proofs.Common.{◌≡◌, ◌≤◌, drop}
use Rattle.sdt_toolkit.specs.Inputs.{last_part}
use Rattle.sdt_toolkit.proofs.InputLemmas.{part_behind}
use Rattle.sdt_toolkit.proofs.names.last_part.Given as goal

abbrev pub invariant-loop-i : goal.invariant-loop-i
invariant-loop-i l = record {
  low : l.start ≤ l.i;
  part : part_behind (drop l.start l.name) (drop l.i l.name) ≡ last_part l.name;
}
