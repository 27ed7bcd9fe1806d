use Rattle.std.proofs.Common.{◌≡◌, ◌++◌, map, drop}
use Rattle.link_model.specs.Members.{objects_in}
use Rattle.link_values.specs.Values.{meant, taken_value, all_values}
use Rattle.link_values.proofs.values.values_of_objects.Given as goal

abbrev pub invariant-loop-i : goal.invariant-loop-i
invariant-loop-i l = map (map meant) l.values.items ++ all_values (taken_value l.boot l.known) l.i (objects_in (drop l.i l.objects)) ≡ all_values (taken_value l.boot l.known) 0 (objects_in l.objects)
