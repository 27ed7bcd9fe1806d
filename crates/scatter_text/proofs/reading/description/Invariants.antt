use Rattle.std.proofs.Common.{◌≡◌, ◌+◌, ◌≤◌, false, length}
use Rattle.scatter_text.specs.Parts.{parts, parts_of, line_count}
use Rattle.scatter_text.specs.Reading.{read, beginning}
use Rattle.scatter_text.proofs.reading.description.Given as goal

-- reading the rest behind what is read gives what reading all gives
abbrev pub invariant-parts : goal.invariant-parts
invariant-parts l = record {
  same : read (line_count l.text + 1) l.reader (parts false l.depth l.line l.rest) ≡ read (line_count l.text + 1) beginning (parts_of l.text);
  lines : l.line + length l.rest ≤ 1 + length l.text;
}

abbrev pub decreases-parts : goal.decreases-parts
decreases-parts l = length l.rest
