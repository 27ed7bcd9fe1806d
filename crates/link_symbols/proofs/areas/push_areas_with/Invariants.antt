use Rattle.std.proofs.Common.{◌≡◌, ◌++◌, drop}
use Rattle.link_symbols.specs.Marks.{told_at_start}
use Rattle.link_symbols.specs.Shown.{shown_in}
use Rattle.link_symbols.specs.Symbols.{areas_by}
use Rattle.link_symbols.proofs.areas.push_areas_with.Given as goal

abbrev pub invariant-loop-k : goal.invariant-loop-k
invariant-loop-k l =
    l.out.items ++ areas_by (shown_in l.source) (told_at_start l.symbols) l.object l.k (drop l.k l.areas)
    ≡ l.fn.out.items ++ areas_by (shown_in l.source) (told_at_start l.symbols) l.object 0 l.areas
