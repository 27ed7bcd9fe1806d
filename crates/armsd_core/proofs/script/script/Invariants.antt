use Rattle.std.proofs.Common.{◌≡◌, ◌≤◌, ◌+◌, length}
use Rattle.std.specs.Str.Lines.{lines}
use Rattle.armsd_core.specs.Scripts.{onto, read}
use Rattle.armsd_core.proofs.script.script.Given as goal

-- reading the rest behind what is read gives what reading all gives
abbrev pub invariant-lines : goal.invariant-lines
invariant-lines l = record {
  same : onto l.read.commands.items (read l.number l.read.points l.read.devices (lines l.rest)) ≡ read 1 64 l.devices (lines l.b);
  few : l.number + length l.rest ≤ length l.b + 1;
}

abbrev pub decreases-lines : goal.decreases-lines
decreases-lines l = length l.rest
