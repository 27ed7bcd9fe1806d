use Rattle.std.proofs.Common.{ℕ, List, ◌++◌, ap}
use Rattle.std.specs.Option.{option_to_list}
use Rattle.sdt_fault.specs.declared.refusal.Refusal.TheVariants.{TwoEntries}
use Rattle.link_model.specs.Definitions.{linked_entry}
use Rattle.link_select.specs.Entries.{entered_by}
use Rattle.link_select.proofs.entries.with_entry.Goals as goal

pub returns-in-Some-found : goal.returns-in-Some-found
returns-in-Some-found c = (
  c.in-Some-found.first,
  record { name = c.args.object.now.name; entry = linked_entry c.args.number c.args.object.now.value c.in-Some.entry },
  (λ i. option_to_list (c.in-Some-found.is i) ++ entered_by c.args.number c.args.object.now (c.in-Some.is i)),
  ap (λ (n : List ℕ). TwoEntries c.in-Some-found.first.name n) c.in_ok-name.ensures,
)
