use Rattle.std.proofs.Common.{◌≡◌, ◌≤◌, ◌+◌, length}
use Rattle.std.specs.Str.Lines.{lines}
use Rattle.hex_image.specs.Readers.{IsRead, state_of}
use Rattle.hex_image.specs.Reading.{first_state, read}
use Rattle.hex_image.proofs.reading.read.Given as goal

-- reading the rest behind what is read gives what reading all gives
abbrev pub invariant-lines : goal.invariant-lines
invariant-lines l = record {
  same : read l.form l.number (state_of l.reader) (lines l.rest) ≡ read l.form 1 first_state (lines l.b);
  few : l.number + length l.rest ≤ length l.b + 1;
  is_read : IsRead l.reader;
}

abbrev pub decreases-lines : goal.decreases-lines
decreases-lines l = length l.rest
