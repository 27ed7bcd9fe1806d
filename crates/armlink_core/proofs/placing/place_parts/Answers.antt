use Rattle.std.specs.Option.{option_copied}
use Rattle.armlink_core.proofs.PlaceLemmas.{roomy_if}
use Rattle.armlink_core.proofs.ValidLemmas.{linked_valid}
use Rattle.armlink_core.proofs.placing.place_parts.Goals as goal

pub make-requires-clause-objects : goal.make-requires-clause-objects
make-requires-clause-objects c =
    linked_valid c.args.objects.items c.args.archives.items c.in_ok-linked.linked.objects c.in_ok-linked.ensures.linked c.requires.objects c.requires.archives

pub returns-clause-roomy : goal.returns-clause-roomy
returns-clause-roomy c = roomy_if c.args.kind.now (option_copied c.args.ram) c.in_ok-linked.linked c.make.result c.make.ensures
