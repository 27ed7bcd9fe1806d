use Rattle.std.proofs.Common.{◌≡◌, ◌++◌, drop}
use Rattle.link_model.specs.Members.{objects_in}
use Rattle.link_model.specs.Definitions.{definitions_from}
use Rattle.link_select.proofs.selecting.definitions_of.Given as goal

abbrev pub invariant-loop-i : goal.invariant-loop-i
invariant-loop-i l = l.definitions.items ++ definitions_from l.i (objects_in (drop l.i l.objects)) ≡ definitions_from 0 (objects_in l.objects)
