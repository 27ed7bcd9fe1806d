use Rattle.std.proofs.Common.{◌≡◌, ◌++◌, drop}
use Rattle.link_symbols.specs.Sections.{sections_from, sections_in}
use Rattle.link_symbols.proofs.sections.sections_of.Given as goal

abbrev pub invariant-loop-region : goal.invariant-loop-region
invariant-loop-region l = l.out.items ++ sections_from l.offset (drop l.region-index l.regions) ≡ sections_in l.loads l.regions
