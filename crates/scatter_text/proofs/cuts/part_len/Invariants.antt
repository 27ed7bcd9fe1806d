use Rattle.std.proofs.Common.{◌≡◌, ◌+◌, ◌-◌, ◌≤◌, length, drop}
use Rattle.scatter_text.specs.Parts as cuts
use Rattle.scatter_text.proofs.cuts.part_len.Given as goal

abbrev pub invariant-bytes : goal.invariant-bytes
invariant-bytes l = record {
  value : cuts.part_len l.depth l.text ≡ l.at + cuts.part_len l.depth (drop l.at l.text);
  within : l.at ≤ length l.text;
}

abbrev pub decreases-bytes : goal.decreases-bytes
decreases-bytes l = length l.text - l.at
