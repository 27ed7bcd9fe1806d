use Rattle.std.proofs.Common.{◌≡◌, ◌++◌, drop}
use Rattle.link_symbols.specs.Shown.{shown_in}
use Rattle.link_symbols.specs.Symbols.{listed_in}
use Rattle.link_symbols.proofs.labels.push_object.Given as goal

abbrev pub invariant-loop-k : goal.invariant-loop-k
invariant-loop-k l =
    l.out.items ++ listed_in (shown_in l.source) l.which l.object l.k (drop l.k l.symbols)
    ≡ l.fn.out.items ++ listed_in (shown_in l.source) l.which l.object 0 l.symbols
