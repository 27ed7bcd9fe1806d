use Rattle.std.proofs.Common.{◌≡◌, ◌-◌}
use Rattle.elf_image.specs.Checks.{load_checks, segments_before}
use Rattle.elf_image.specs.Reading.{judged, segments_of}
use Rattle.elf_image.proofs.reading.segments.Given as goal

abbrev pub invariant-loop-number : goal.invariant-loop-number
invariant-loop-number l = record {
  items : l.segments.items ≡ segments_before l.bytes l.number;
  so_far : judged (load_checks l.number (l.count - l.number)) l.bytes (segments_before l.bytes l.count) ≡ segments_of l.bytes l.count;
}
