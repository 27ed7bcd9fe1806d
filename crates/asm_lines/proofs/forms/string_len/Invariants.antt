use Rattle.std.proofs.Common.{length, ◌-◌, ◌≡◌, ◌≤◌, drop}
use Rattle.asm_lines.specs.Lengths as lengths
use Rattle.asm_lines.proofs.forms.string_len.Given as goal

abbrev pub invariant-bytes : goal.invariant-bytes
invariant-bytes l = record {
  value : lengths.kept l.best l.i (lengths.string_len (drop l.i l.rest)) ≡ lengths.string_len l.rest;
  within : l.i ≤ length l.rest;
  best : l.best ≤ length l.rest;
}

abbrev pub decreases-bytes : goal.decreases-bytes
decreases-bytes l = length l.rest - l.i
