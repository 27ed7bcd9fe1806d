use Rattle.std.proofs.Common.{◌≡◌, ◌++◌, drop}
use Rattle.link_model.specs.Members.{objects_in}
use Rattle.link_symbols.specs.Shown.{shown_in}
use Rattle.link_symbols.specs.Symbols.{areas_from}
use Rattle.link_symbols.proofs.areas.push_objects.Given as goal

abbrev pub invariant-loop-i : goal.invariant-loop-i
invariant-loop-i l =
    l.out.items ++ areas_from (shown_in l.source) l.i (objects_in (drop l.i l.objects))
    ≡ l.fn.out.items ++ areas_from (shown_in l.source) 0 (objects_in l.objects)
