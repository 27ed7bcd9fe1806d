use Rattle.std.proofs.Common.{length, ◌-◌, ◌≡◌, ◌≤◌, drop}
use Rattle.asm_lines.specs.Lengths as lengths
use Rattle.asm_lines.proofs.forms.bar_len.Given as goal

abbrev pub invariant-bytes : goal.invariant-bytes
invariant-bytes l = record {
  value : lengths.added l.i (lengths.bar_len (drop l.i l.rest)) ≡ lengths.bar_len l.rest;
  within : l.i ≤ length l.rest;
}

abbrev pub decreases-bytes : goal.decreases-bytes
decreases-bytes l = length l.rest - l.i
