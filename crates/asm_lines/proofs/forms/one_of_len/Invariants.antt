use Rattle.std.proofs.Common.{length, ◌≡◌, ◌≤◌, max, ◌==◌}
use Rattle.std.specs.List.{slice_split}
use Rattle.asm_lines.specs.Lengths as lengths
use Rattle.asm_lines.proofs.forms.one_of_len.Given as goal

abbrev pub invariant-words : goal.invariant-words
invariant-words l = record {
  value : max l.best (lengths.words_len (slice_split (λ c. c == 32) l.left) l.rest) ≡ lengths.words_len (slice_split (λ c. c == 32) l.text) l.rest;
  within : l.best ≤ length l.rest;
}

abbrev pub decreases-words : goal.decreases-words
decreases-words l = length l.left
