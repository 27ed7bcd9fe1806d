use Rattle.std.proofs.Common.{◌≡◌, ◌++◌, drop}
use Rattle.link_model.specs.Members.{objects_in}
use Rattle.link_symbols.specs.Shown.{shown_in}
use Rattle.link_symbols.specs.Symbols.{listed_from}
use Rattle.link_symbols.proofs.labels.push_objects.Given as goal

abbrev pub invariant-loop-i : goal.invariant-loop-i
invariant-loop-i l =
    l.out.items ++ listed_from (shown_in l.source) l.which l.i (objects_in (drop l.i l.objects))
    ≡ l.fn.out.items ++ listed_from (shown_in l.source) l.which 0 (objects_in l.objects)
