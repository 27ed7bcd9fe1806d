use Rattle.std.proofs.Common.{◌≡◌, ◌++◌, drop}
use Rattle.std.specs.List.{flat_map}
use Rattle.link_symbols.specs.Marks.{veneer_marks}
use Rattle.link_symbols.proofs.marks.push_veneers.Given as goal

abbrev pub invariant-loop-placed : goal.invariant-loop-placed
invariant-loop-placed l =
    l.out.items ++ flat_map (veneer_marks l.sections) (drop l.placed-index l.veneers) ≡ l.fn.out.items ++ flat_map (veneer_marks l.sections) l.veneers
