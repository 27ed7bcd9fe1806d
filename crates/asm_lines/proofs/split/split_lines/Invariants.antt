use Rattle.std.proofs.Common.{◌≡◌, ◌≤◌, ◌-◌, ◌++◌, length, drop}
use Rattle.std.specs.Str.Lines.{lines}
use Rattle.asm_model.specs.Lines.{numbered, first_beyond}
use Rattle.asm_lines.proofs.split.split_lines.Given as goal

abbrev pub invariant-lines : goal.invariant-lines
invariant-lines l = record {
  faults : first_beyond l.number (lines (drop l.place l.text)) ≡ first_beyond 1 (lines l.text);
  texts : l.list.items ++ numbered l.source l.number (lines (drop l.place l.text)) ≡ numbered l.source 1 (lines l.text);
  within : l.place ≤ length l.text;
  few : l.number ≤ 200001;
}

abbrev pub decreases-lines : goal.decreases-lines
decreases-lines l = length l.text - l.place
