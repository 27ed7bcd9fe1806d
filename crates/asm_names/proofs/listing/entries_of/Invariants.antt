use Rattle.std.proofs.Common.{◌≡◌, take}
use Rattle.std.specs.List.{flat_map}
use Rattle.asm_names.specs.Source.{line_entries}
use Rattle.asm_names.proofs.listing.entries_of.Given as goal

abbrev pub invariant-lines : goal.invariant-lines
invariant-lines l = l.names ≡ flat_map (line_entries l.known) (take l.line-index l.lines)
