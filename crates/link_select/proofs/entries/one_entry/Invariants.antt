use Rattle.std.proofs.Common.{◌≡◌, ◌++◌, drop}
use Rattle.std.specs.Option.{option_to_list}
use Rattle.link_select.specs.Entries.{entered_from}
use Rattle.link_select.proofs.entries.one_entry.Given as goal

abbrev pub invariant-loop-i : goal.invariant-loop-i
invariant-loop-i l = option_to_list l.found ++ entered_from l.i (drop l.i l.objects) ≡ entered_from 0 l.objects
